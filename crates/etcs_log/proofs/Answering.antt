-- What is written about a line, by what its digits say.
use Rattle.std.proofs.Common.{◌≡◌, ℕ, ◌+◌, ◌-◌, ◌*◌, ◌<◌, ◌≤◌, ◌%◌, ◌==◌, Bool, true, false, ◌&&◌, ◌||◌, cond, IsTrue, List, [], ◌∷◌, ◌++◌, length, take, drop, Result, Ok, Err, inl, inr, refl, sym, ap, subst, ◌∙◌, arith}
use Rattle.std.proofs.lemmas.List.{append-nil, append_assoc, length-drop, map-append}
use Rattle.std.proofs.Math.Seq.{take-length}
use Rattle.std.specs.Prelude.{◌⊎◌, IfOk, OnOk, Option, Some, None, not, if◌then◌else◌}
use Rattle.etcs_text.specs.declared.entry.Entry.{Entry}
use Rattle.etcs_text.specs.declared.entry.Entry.TheVariants.{Telegram}
use Rattle.etcs_text.specs.declared.entry.Kind.{Kind}
use Rattle.etcs_text.specs.declared.entry.Kind.TheVariants.{Long, Short, Radio, Train}
use Rattle.etcs_text.specs.declared.verdict.Verdict.{Verdict}
use Rattle.etcs_text.specs.declared.verdict.Verdict.TheVariants.{Item, Refused, TooShort, TooLong}
use Rattle.hex.specs.Hex.{decode_of, decode_pairs}
use Rattle.hex.proofs.HexLemmas.{decode_of-odd, decode_of-ok}
use Rattle.etcs_bits.specs.Bits.{bits}
use Rattle.etcs_bits.proofs.Positions.{length-bits}
use Rattle.etcs_telegram.specs.declared.size.Size.{Size}
use Rattle.etcs_telegram.specs.declared.size.Size.TheVariants as size
use Rattle.etcs_telegram.specs.Telegrams.{TelegramContent, TelegramValue, telegram_value, user_bits, pad_bits}
use Rattle.etcs_telegram.proofs.Spellings.{whole_length}
use Rattle.etcs_runs.specs.Answers.{Says}
use Rattle.hex.specs.declared.error.FromHexError.{FromHexError}
use Rattle.std.specs.Option.{option_map}
use Rattle.etcs_runs.specs.Digits.{is_passed_over, text_digits}
use Rattle.etcs_runs.specs.declared.digits.NoBytes.{NoBytes}
use Rattle.etcs_runs.specs.declared.digits.NoBytes.TheVariants.{Empty, NoDigits, OddDigits}
use Rattle.etcs_group.specs.declared.groups.Group.{Group}
use Rattle.etcs_group.specs.GroupLines.{AreGroupLines}
use Rattle.etcs_group.specs.ManyGroups.{AreGroupsOf}
use Rattle.etcs_text.specs.Entries.{EntryValue, entry_value, kind_of}
use Rattle.etcs_text.specs.Verdicts.{IsItem, IsVerdict}
use Rattle.etcs_text.proofs.ItemKinds.{item_bits, same_telegrams}
use Rattle.etcs_log.specs.declared.job.Good.{Good}
use Rattle.etcs_log.specs.declared.job.Good.TheVariants.{Left, Digits, Json}
use Rattle.etcs_log.specs.declared.job.LogJob.{LogJob}
use Rattle.etcs_log.specs.declared.job.LogTally.{LogTally}
use Rattle.etcs_log.specs.declared.kinds.Kinds.{Kinds}
use Rattle.etcs_log.specs.declared.notes.Note.{Note}
use Rattle.etcs_log.specs.declared.notes.Note.TheVariants as note
use Rattle.etcs_reasons.specs.BitDigits.{are_bits, packed}
use Rattle.etcs_log.specs.Candidates.{AreNone, Candidate, IsFirst, asks_message, candidates, contains, digit_candidates, is_asked, last_bytes, last_candidate, last_candidates, line_candidates, may_have, message_candidate, message_way, telegram_bytes, text_candidates, trial, where_asked, whole_bytes, whole_candidate, whole_candidates}
use Rattle.etcs_log.specs.Logs.{Answer, passed, item, other, plain, bad, IsAnswer, IsItemOf, IsTextsAnswer, IsNoteOf, AnotherSaid, Answered, TextsAnswered, Counted, CountsText, Grouped, GroupsText, Noted, Tried, another_said, counts_front, first_bytes, good_text, is_written, other_bytes, other_note, reported, said, tallied, telegrams_in}
use Rattle.etcs_log.specs.Reports.{AreReports}
use Rattle.etcs_log.specs.declared.reports.Reports.{Reports}
use Rattle.etcs_log.specs.declared.seen.Seen.{Seen}
use Rattle.etcs_log.specs.JsonLines.{json_item}
use Rattle.etcs_log.specs.LogGroups.{AreGroups, Holds, telegram_of}
use Rattle.etcs_log.specs.Picks.{picks, picks_some, is_picked}
use Rattle.etcs_runs.specs.LineRuns.{line_runs}
use Rattle.etcs_log.specs.Values.{bytes_text, digits_line, has_variables, needs_values}

-- ---- What no bytes are.

no_bytes : (kind : Kind) (e : EntryValue) → IsItem kind [] e → ⊥
unfolding bits
no_bytes kind e (r, reads, is) =
    let none : length (bits []) ≡ 0 = refl in
    omega (arith, item_bits kind r (e, reads), ap length is, none)

whole_none : (kind : Kind) → whole_bytes kind [] ≡ []
whole_none Long = refl
whole_none Short = refl
whole_none Radio = refl
whole_none Train = refl

last_none : (kind : Kind) → last_bytes kind [] ≡ []
last_none Long = refl
last_none Short = refl
last_none Radio = refl
last_none Train = refl

none_of : (kind : Kind) (bytes : List ℕ) → bytes ≡ [] → (e : EntryValue) → IsItem kind bytes e → ⊥
none_of kind bytes none e is = no_bytes kind e (subst (λ (z : List ℕ). IsItem kind z e) none is)

pub none_asked : (asked : Bool) (kind : Kind) (is_last : Bool) (text bytes : List ℕ) → ((e : EntryValue) → IsItem kind bytes e → ⊥) → AreNone (where_asked asked kind is_last text bytes)
none_asked true kind is_last text bytes h = (h, tt)
none_asked false kind is_last text bytes h = tt

pub none-append : (cs ds : List Candidate) → AreNone cs → AreNone ds → AreNone (cs ++ ds)
none-append [] ds h k = k
none-append (c ∷ cs) ds h k = (h.0, none-append cs ds h.1 k)

whole_nothing : (kinds : Kinds) (kind : Kind) (text : List ℕ) → AreNone (whole_candidate kinds kind text [])
whole_nothing kinds kind text = none_asked (contains kinds kind) kind false text (whole_bytes kind []) (none_of kind (whole_bytes kind []) (whole_none kind))

last_nothing : (kinds : Kinds) (kind : Kind) (text : List ℕ) → AreNone (last_candidate kinds kind text [])
last_nothing kinds kind text = none_asked _ kind true text (last_bytes kind []) (none_of kind (last_bytes kind []) (last_none kind))

none_there : (kinds : Kinds) (text : List ℕ) → AreNone (candidates kinds text [])
none_there kinds text =
    let message = none_asked (asks_message kinds []) (message_way kinds []) false text [] (no_bytes (message_way kinds [])) in
    let whole = none-append (whole_candidate kinds Long text []) _ (whole_nothing kinds Long text) (none-append (whole_candidate kinds Short text []) _ (whole_nothing kinds Short text) message) in
    let last = none-append (last_candidate kinds Long text []) _ (last_nothing kinds Long text) (last_nothing kinds Short text) in
    none-append (whole_candidates kinds text []) (last_candidates kinds text []) whole last

none_false : (a b c : Bool) → (a && false) || (b && false) || (c && false) ≡ false
none_false true true true = refl
none_false true true false = refl
none_false true false true = refl
none_false true false false = refl
none_false false true true = refl
none_false false true false = refl
none_false false false true = refl
none_false false false false = refl

pub no_asked : (kinds : Kinds) → is_asked kinds [] ≡ false
no_asked kinds = none_false kinds.long kinds.short (kinds.radio || kinds.train)

-- ---- What candidates are.

pub first-left : (cs ds : List Candidate) (d : Candidate) (e : EntryValue) → IsFirst cs d e → IsFirst (cs ++ ds) d e
first-left [] ds d e h = absurd h
first-left (c ∷ cs) ds d e (inl h) = inl h
first-left (c ∷ cs) ds d e (inr (none, h)) = inr (none, first-left cs ds d e h)

pub first-right : (cs ds : List Candidate) (d : Candidate) (e : EntryValue) → AreNone cs → IsFirst ds d e → IsFirst (cs ++ ds) d e
first-right [] ds d e none h = h
first-right (c ∷ cs) ds d e none h = inr (none.0, first-right cs ds d e none.1 h)

pub none-split : (cs ds : List Candidate) → AreNone (cs ++ ds) → AreNone cs × AreNone ds
none-split [] ds h = (tt, h)
none-split (c ∷ cs) ds h = let (left, right) = none-split cs ds h.1 in ((h.0, left), right)

-- of a text whose digits are no bytes
pub none_said : (kinds : Kinds) (text buffer : List ℕ) (e : NoBytes) → Says (text_digits text) (Err e) buffer → AreNone (text_candidates kinds text)
unfolding decode_pairs
none_said kinds text buffer Empty says = absurd says
none_said kinds text buffer NoDigits says =
    let is : decode_of (text_digits text) ≡ Ok [] = ap decode_of says in
    subst (λ (z : Result (List ℕ) FromHexError). AreNone (digit_candidates kinds text z)) (sym is) (none_there kinds text)
none_said kinds text buffer (OddDigits n) (same, odd) =
    subst (λ (z : Result (List ℕ) FromHexError). AreNone (digit_candidates kinds text z)) (sym (decode_of-odd (text_digits text) (ap (λ (k : ℕ). k % 2) (sym same) ∙ odd))) tt

-- of texts one after another
pub none_more : (kinds : Kinds) (texts : List (List ℕ)) (text : List ℕ) → AreNone (line_candidates kinds texts) → AreNone (text_candidates kinds text) → AreNone (line_candidates kinds (texts ++ text ∷ []))
none_more kinds [] text h k = none-append (text_candidates kinds text) [] k tt
none_more kinds (x ∷ xs) text h k =
    let (left, right) = none-split (text_candidates kinds x) (line_candidates kinds xs) h in
    none-append (text_candidates kinds x) (line_candidates kinds (xs ++ text ∷ [])) left (none_more kinds xs text right k)

-- the first text with an item, after others
pub item_after : (kinds : Kinds) (texts others : List (List ℕ)) (text : List ℕ) (c : Candidate) (e : EntryValue) → AreNone (line_candidates kinds texts) → IsFirst (text_candidates kinds text) c e → IsItemOf kinds (texts ++ text ∷ others) c e others
item_after kinds [] others text c e h k = inl (k, refl)
item_after kinds (x ∷ xs) others text c e h k =
    let (left, right) = none-split (text_candidates kinds x) (line_candidates kinds xs) h in
    inr (left, item_after kinds xs others text c e right k)

-- it isn't too long
pub answered_texts_if : {T E : Type 0} (r : Result T E) (job : LogJob) (n : ℕ) (line : List ℕ) (before after : Seen) (text text' : List ℕ) → length line ≤ 1048576 → is_passed_over line ≡ false → OnOk r (TextsAnswered job n (line_runs line) before after text text') → OnOk r (Answered job n line before after text text')
answered_texts_if (Ok x) job n line before after text text' short read (a, says, counted) = (a, inr (short, inr (read, says)), counted)
answered_texts_if (Err e) job n line before after text text' short read h = tt

-- ---- How a line is counted.

-- neither of two is
neither : (a b : Bool) → a || b ≡ false → (a ≡ false) × (b ≡ false)
neither true b h = cc h
neither false b h = (refl, h)

-- no value of an item is needed
without_values : (job : LogJob) → needs_values job ≡ false → (picks_some job ≡ false) × (job.groups ≡ false) × (has_variables job.good ≡ false)
without_values job h =
    let (h1, bytes_only) = neither (picks_some job || job.summary || job.groups) (has_variables job.good) h in
    let (h2, groups) = neither (picks_some job || job.summary) job.groups h1 in
    ((neither (picks_some job) job.summary h2).0, groups, bytes_only)

bytes_alone : (job : LogJob) (n : ℕ) (c : Candidate) (e : EntryValue) (good : Good) → has_variables good ≡ false → good_text job n c e good ≡ bytes_text good job.kinds c.kind c.bytes
bytes_alone job n c e Left none = refl
bytes_alone job n c e Digits none = refl
bytes_alone job n c e Json none = cc none

said_by : (b : Bool) (e : EntryValue) (job : LogJob) (t : List ℕ) → b ≡ false → (if (if b then is_picked job e else true) then t else []) ++ [] ≡ t
said_by b e job t none = ap (λ (z : Bool). (if (if z then is_picked job e else true) then t else []) ++ []) none ∙ append-nil t

-- all items are written, and by their bytes alone
said_bytes : (job : LogJob) (n : ℕ) (c : Candidate) (e : EntryValue) → picks_some job ≡ false → has_variables job.good ≡ false → said job n (item c e None) ≡ bytes_text job.good job.kinds c.kind c.bytes
said_bytes job n c e all none = said_by (picks_some job) e job (good_text job n c e job.good) all ∙ bytes_alone job n c e job.good none

-- it is written, or it isn't
pub said_good : (job : LogJob) (n : ℕ) (c : Candidate) (e : EntryValue) → picks job e ≡ true → said job n (item c e None) ≡ good_text job n c e job.good
said_good job n c e is = ap (λ (b : Bool). (if b then good_text job n c e job.good else []) ++ []) is ∙ append-nil (good_text job n c e job.good)

pub said_not : (job : LogJob) (n : ℕ) (c : Candidate) (e : EntryValue) → picks job e ≡ false → said job n (item c e None) ≡ []
said_not job n c e is = ap (λ (b : Bool). (if b then good_text job n c e job.good else []) ++ []) is

-- what is written of an item
pub counted_good : {T E : Type 0} (r : Result T E) (job : LogJob) (n : ℕ) (c : Candidate) (e : EntryValue) (before : LogTally) (text text' t : List ℕ) → picks job e ≡ true → good_text job n c e job.good ≡ t → OnOk r (text' ≡ text ++ t) → OnOk r (Counted job n (item c e None) before (record before { items = before.items + 1 }) text text')
counted_good (Ok x) job n c e before text text' t is same h = (h ∙ ap (λ (z : List ℕ). text ++ z) (sym (said_good job n c e is ∙ same)), refl)
counted_good (Err x) job n c e before text text' t is same h = tt

pub counted_none : (job : LogJob) (n : ℕ) (c : Candidate) (e : EntryValue) (before : LogTally) (text : List ℕ) → said job n (item c e None) ≡ [] → Counted job n (item c e None) before (record before { items = before.items + 1 }) text text
counted_none job n c e before text none = (sym (ap (λ (z : List ℕ). text ++ z) none ∙ append-nil text), refl)

pub json_good : (job : LogJob) (n : ℕ) (c : Candidate) (e : EntryValue) → job.good ≡ Json → good_text job n c e job.good ≡ json_item n c.front e
json_good job n c e is = ap (good_text job n c e) is

-- ---- How lines are counted.

-- the text of the counts was appended
abbrev pub AppendsCounts : LogJob → LogTally → List ℕ → List ℕ → Type 0
AppendsCounts job tally text text' = (counts : List ℕ) × CountsText job tally counts × (text' ≡ text ++ counts)

pub counts_silent : (job : LogJob) (tally : LogTally) (text text' : List ℕ) → job.summary ≡ false → text' ≡ text → AppendsCounts job tally text text'
counts_silent job tally text text' silent t = ([], (λ _. refl, λ _ asked. cc (sym silent ∙ asked)), t ∙ sym (append-nil text))

pub counts_elsewhere : (job : LogJob) (tally : LogTally) (text text' : List ℕ) → is_written job.good ≡ true → text' ≡ text → AppendsCounts job tally text text'
counts_elsewhere job tally text text' good t = ([], (λ _. refl, λ silent _. cc (sym good ∙ silent)), t ∙ sym (append-nil text))

no_counts : (job : LogJob) (text : List ℕ) → is_written job.good ≡ false → job.summary ≡ true → (is_written job.good ≡ true) ⊎ (job.summary ≡ false) → text ≡ []
no_counts job text silent asked (inl good) = cc (sym silent ∙ good)
no_counts job text silent asked (inr none) = cc (sym asked ∙ none)

pub counts_here : {T E : Type 0} (r : Result T E) (job : LogJob) (tally : LogTally) (text text' further : List ℕ) → is_written job.good ≡ false → job.summary ≡ true → OnOk r (text' ≡ text ++ (counts_front tally ++ further)) → OnOk r (AppendsCounts job tally text text')
counts_here (Ok x) job tally text text' further silent asked t = (counts_front tally ++ further, (no_counts job (counts_front tally ++ further) silent asked, λ _ _. (further, refl)), t)
counts_here (Err e) job tally text text' further silent asked t = tt

pub on_ok : {T E : Type 0} (r : Result T E) (P : Type 0) → P → OnOk r P
on_ok (Ok x) P h = h
on_ok (Err e) P h = tt

-- ---- How it is grouped.

-- nothing is added
no_group : (job : LogJob) (a : Answer) (old new : List Group) → telegrams_in (a ∷ []) ≡ [] → new ≡ old → Grouped job a old new
no_group job a old new none same = λ asked vs h. subst (λ (z : List Group). AreGroups (vs ++ telegrams_in (a ∷ [])) z) (sym same) (subst (λ (z : List TelegramValue). AreGroups z old) (sym (ap (λ (z : List TelegramValue). vs ++ z) none ∙ append-nil vs)) h)

-- a line that is no item
noted_note : {T E : Type 0} (r : Result T E) (job : LogJob) (n : ℕ) (a : Answer) (before after : Seen) (text text' : List ℕ) → telegrams_in (a ∷ []) ≡ [] → after ≡ record before { tally = tallied before.tally a } → OnOk r (text' ≡ text ++ said job n a) → OnOk r (Noted job n a before after text text')
noted_note (Ok x) job n a before after text text' none is t = ((t, ap (λ (z : Seen). z.tally) is), no_group job a before.groups after.groups none (ap (λ (z : Seen). z.groups) is))
noted_note (Err x) job n a before after text text' none is t = tt

pub noted_bad : {T E : Type 0} (r : Result T E) (job : LogJob) (n : ℕ) (why : Note) (before after : Seen) (text text' : List ℕ) → after ≡ record before { tally = record before.tally { bad = before.tally.bad + 1 } } → OnOk r (text' ≡ text ++ reported job n why) → OnOk r (Noted job n (bad why) before after text text')
noted_bad r job n why before after text text' is t = noted_note r job n (bad why) before after text text' refl is t

pub noted_other : {T E : Type 0} (r : Result T E) (job : LogJob) (n : ℕ) (why : Note) (before after : Seen) (text text' : List ℕ) → after ≡ record before { tally = record before.tally { other = before.tally.other + 1 } } → OnOk r (text' ≡ text ++ reported job n why) → OnOk r (Noted job n (other why) before after text text')
noted_other r job n why before after text text' is t = noted_note r job n (other why) before after text text' refl is t

pub noted_plain : (job : LogJob) (n : ℕ) (before : Seen) (text : List ℕ) → Noted job n plain before (record before { tally = record before.tally { text = before.tally.text + 1 } }) text text
noted_plain job n before text = ((sym (append-nil text), refl), no_group job plain before.groups before.groups refl refl)

-- no group is asked for
pub noted_alone : (job : LogJob) (n : ℕ) (a : Answer) (before after : Seen) (text text' : List ℕ) → job.groups ≡ false → Counted job n a before.tally after.tally text text' → Noted job n a before after text text'
noted_alone job n a before after text text' none h = (h, λ asked. cc (sym none ∙ asked))

-- the item was added
pub noted_held : (job : LogJob) (n : ℕ) (c : Candidate) (e : EntryValue) (before mid after : Seen) (text text' : List ℕ) → mid.groups ≡ before.groups → after.tally ≡ mid.tally → Counted job n (item c e None) before.tally mid.tally text text' → Holds e mid.groups after.groups → Noted job n (item c e None) before after text text'
noted_held job n c e before mid after text text' same tally h held =
    let grouped : Grouped job (item c e None) before.groups after.groups = λ asked vs of. subst (λ (z : List TelegramValue). AreGroups (vs ++ z) after.groups) (sym (append-nil (telegram_of e))) (held vs (subst (λ (z : List Group). AreGroups vs z) (sym same) of)) in
    (subst (λ (z : LogTally). Counted job n (item c e None) before.tally z text text') (sym tally) h, grouped)

-- a telegram was added
pub held_telegram : (t : TelegramContent) (e : Entry) (old new : List Group) → e ≡ Telegram t → ((earlier : List TelegramContent) → AreGroupsOf earlier old → AreGroupsOf (earlier ++ t ∷ []) new) → Holds (entry_value e) old new
held_telegram t e old new is adds =
    subst (λ (v : Entry). Holds (entry_value v) old new) (sym is) (λ vs h. (h.0 ++ t ∷ [], map-append telegram_value h.0 (t ∷ []) ∙ ap (λ (l : List TelegramValue). l ++ telegram_value t ∷ []) h.1, adds h.0 h.2))

-- ---- A line that is passed over.

pub answered_passed : (job : LogJob) (n : ℕ) (line : List ℕ) (seen : Seen) (text : List ℕ) → length line ≤ 1048576 → is_passed_over line ≡ true → Answered job n line seen seen text text
answered_passed job n line seen text short over = (passed, inr (short, inl (over, refl)), ((sym (append-nil text), refl), no_group job passed seen.groups seen.groups refl refl))

-- ---- What comes at the end.

pub groups_silent : (job : LogJob) (gs : List Group) (text : List ℕ) → job.groups ≡ false → (lines : List ℕ) × GroupsText job gs lines × (text ≡ text ++ lines)
groups_silent job gs text none = ([], (λ _. refl, λ _ asked. cc (sym none ∙ asked)), sym (append-nil text))

pub groups_elsewhere : (job : LogJob) (gs : List Group) (text : List ℕ) → is_written job.good ≡ true → (lines : List ℕ) × GroupsText job gs lines × (text ≡ text ++ lines)
groups_elsewhere job gs text good = ([], (λ _. refl, λ silent _. cc (sym good ∙ silent)), sym (append-nil text))

no_line : (job : LogJob) (text : List ℕ) → is_written job.good ≡ false → job.groups ≡ true → (is_written job.good ≡ true) ⊎ (job.groups ≡ false) → text ≡ []
no_line job text silent asked (inl good) = cc (sym silent ∙ good)
no_line job text silent asked (inr none) = cc (sym asked ∙ none)

pub groups_here : {T E : Type 0} (r : Result T E) (job : LogJob) (gs : List Group) (text text' : List ℕ) → is_written job.good ≡ false → job.groups ≡ true → OnOk r ((lines : List ℕ) × AreGroupLines gs lines × (text' ≡ text ++ lines)) → OnOk r ((lines : List ℕ) × GroupsText job gs lines × (text' ≡ text ++ lines))
groups_here (Ok x) job gs text text' silent asked (lines, are, grown) = (lines, (no_line job lines silent asked, λ _ _. are), grown)
groups_here (Err x) job gs text text' silent asked h = tt

-- ---- What is tried.

-- what was tried first has an item
pub tried_left : (b : Bool) (cs ds : List Candidate) (job : LogJob) (n : ℕ) (before after : Seen) (text text' : List ℕ) → b ≡ true → Tried cs b job n before after text text' → Tried (cs ++ ds) true job n before after text text'
tried_left b cs ds job n before after text text' is h =
    let (c, e, first, counted) = subst (λ (z : Bool). Tried cs z job n before after text text') is h in
    (c, e, first-left cs ds c e first, counted)

-- or has none
pub tried_none : (b : Bool) (cs : List Candidate) (job : LogJob) (n : ℕ) (before after : Seen) (text text' : List ℕ) → b ≡ false → Tried cs b job n before after text text' → Tried cs false job n before after text text'
tried_none b cs job n before after text text' is h = subst (λ (z : Bool). Tried cs z job n before after text text') is h

-- what was counted after a trial that changed nothing
later : (a : Answer) (job job' : LogJob) (n n' : ℕ) (before mid after : Seen) (text t text' : List ℕ) → job' ≡ job → n' ≡ n → mid ≡ before → t ≡ text → Noted job' n' a mid after t text' → Noted job n a before after text text'
later a job job' n n' before mid after text t text' j k m e h =
    subst (λ (z : LogJob). Noted z n a before after text text') j (subst (λ (z : ℕ). Noted job' z a before after text text') k (subst (λ (z : Seen). Noted job' n' a z after text text') m (subst (λ (z : List ℕ). Noted job' n' a mid after z text') e h)))

-- then what was tried next counts
pub tried_next : (b : Bool) (cs : List Candidate) (ds : Kinds → List Candidate) (job job' : LogJob) (n n' : ℕ) (before mid after : Seen) (text t text' : List ℕ) → job' ≡ job → n' ≡ n → Tried cs false job n before mid text t → Tried (ds job'.kinds) b job' n' mid after t text' → Tried (cs ++ ds job.kinds) b job n before after text text'
tried_next true cs ds job job' n n' before mid after text t text' j k (none, m, e) (c, v, first, counted) =
    (c, v, first-right cs (ds job.kinds) c v none (subst (λ (z : LogJob). IsFirst (ds z.kinds) c v) j first), later (item c v None) job job' n n' before mid after text t text' j k m e counted)
tried_next false cs ds job job' n n' before mid after text t text' j k (none, m, e) (others, same, f) =
    (none-append cs (ds job.kinds) none (subst (λ (z : LogJob). AreNone (ds z.kinds)) j others), same ∙ m, f ∙ e)

pub tried_right : {E : Type 0} (r : Result Bool E) (cs : List Candidate) (ds : Kinds → List Candidate) (job job' : LogJob) (n n' : ℕ) (before mid after : Seen) (text t text' : List ℕ) → job' ≡ job → n' ≡ n → Tried cs false job n before mid text t → IfOk r (λ b. Tried (ds job'.kinds) b job' n' mid after t text') → IfOk r (λ b. Tried (cs ++ ds job.kinds) b job n before after text text')
tried_right (Ok b) cs ds job job' n n' before mid after text t text' j k h more = tried_next b cs ds job job' n n' before mid after text t text' j k h more
tried_right (Err x) cs ds job job' n n' before mid after text t text' j k h more = tt

-- a telegram of either size, then a message
pub tried_whole : {E : Type 0} (r : Result Bool E) (line bytes : List ℕ) (job job1 job2 : LogJob) (n n1 n2 : ℕ) (before one two after : Seen) (text t1 t2 text' : List ℕ) → job1 ≡ job → n1 ≡ n → job2 ≡ job1 → n2 ≡ n1 → Tried (whole_candidate job.kinds Long line bytes) false job n before one text t1 → Tried (whole_candidate job1.kinds Short line bytes) false job1 n1 one two t1 t2 → IfOk r (λ b. Tried (message_candidate job2.kinds line bytes) b job2 n2 two after t2 text') → IfOk r (λ b. Tried (whole_candidates job.kinds line bytes) b job n before after text text')
tried_whole r line bytes job job1 job2 n n1 n2 before one two after text t1 t2 text' j k j' k' long short message =
    let further = tried_right r (whole_candidate job1.kinds Short line bytes) (λ z. message_candidate z line bytes) job1 job2 n1 n2 one two after t1 t2 text' j' k' short message in
    tried_right r (whole_candidate job.kinds Long line bytes) (λ z. whole_candidate z Short line bytes ++ message_candidate z line bytes) job job1 n n1 before one after text t1 text' j k long further

-- bits are their bytes
pub whole_bits : (kind : Kind) (bytes : List ℕ) → are_bits kind bytes ≡ true → whole_bytes kind bytes ≡ take (telegram_bytes kind) (packed bytes)
whole_bits kind bytes are = ap (λ (b : Bool). cond b (take (telegram_bytes kind) (packed bytes)) bytes) are

pub whole_plain : (kind : Kind) (bytes : List ℕ) → are_bits kind bytes ≡ false → whole_bytes kind bytes ≡ bytes
whole_plain kind bytes none = ap (λ (b : Bool). cond b (take (telegram_bytes kind) (packed bytes)) bytes) none

pub tried_asked : {E : Type 0} (r : Result Bool E) (asked : Bool) (kind kind' : Kind) (is_last : Bool) (line bytes bytes' : List ℕ) (job : LogJob) (n : ℕ) (before after : Seen) (text text' : List ℕ) → asked ≡ true → kind' ≡ kind → bytes' ≡ bytes → IfOk r (λ b. Tried (trial kind' is_last line bytes' ∷ []) b job n before after text text') → IfOk r (λ b. Tried (where_asked asked kind is_last line bytes) b job n before after text text')
tried_asked r asked kind kind' is_last line bytes bytes' job n before after text text' asks same is h =
    let here = subst (λ (z : List ℕ). IfOk r (λ b. Tried (trial kind is_last line z ∷ []) b job n before after text text')) is (subst (λ (z : Kind). IfOk r (λ b. Tried (trial z is_last line bytes' ∷ []) b job n before after text text')) same h) in
    subst (λ (z : Bool). IfOk r (λ b. Tried (where_asked z kind is_last line bytes) b job n before after text text')) (sym asks) here

-- the digits of a text that are bytes, or none
pub tried_said : {E : Type 0} (r : Result Bool E) (line buffer bytes : List ℕ) (k : ℕ) (job : LogJob) (n : ℕ) (before after : Seen) (text text' : List ℕ) → Says (text_digits line) (Ok k) buffer → bytes ≡ drop (length buffer - k) buffer → IfOk r (λ b. Tried (candidates job.kinds line bytes) b job n before after text text') → IfOk r (λ b. Tried (text_candidates job.kinds line) b job n before after text text')
tried_said r line buffer bytes k job n before after text text' says same h =
    subst (λ (z : Result (List ℕ) FromHexError). IfOk r (λ b. Tried (digit_candidates job.kinds line z) b job n before after text text')) (sym (says.2 ∙ ap Ok (sym same))) h

-- ---- What is written about bytes.

sized_length : (s : Size) (bytes : List ℕ) (e : EntryValue) → IsItem (kind_of s) bytes e → 8 * length bytes ≡ user_bits s + pad_bits s
sized_length s bytes e (r, reads, is) = omega (arith, length-bits bytes, ap length is, whole_length s r ((same_telegrams s r).1 (e, reads)))

-- an item has as many bytes as it may have
pub no_fit : (kind : Kind) (bytes : List ℕ) → may_have kind (length bytes) ≡ false → (e : EntryValue) → IsItem kind bytes e → ⊥
no_fit Long bytes unfit e is =
    let count : length bytes ≡ 104 = omega (arith, sized_length size.Long bytes e is) in
    let wrong : ◌≡◌ {A = Bool} true false = subst (λ (z : ℕ). (z == 104) ≡ false) count unfit in
    cc wrong
no_fit Short bytes unfit e is =
    let count : length bytes ≡ 27 = omega (arith, sized_length size.Short bytes e is) in
    let wrong : ◌≡◌ {A = Bool} true false = subst (λ (z : ℕ). (z == 27) ≡ false) count unfit in
    cc wrong
no_fit Radio bytes unfit e is = cc unfit
no_fit Train bytes unfit e is = cc unfit

-- candidates that were tried one by one
module _ (job : LogJob) (n : ℕ) (c : Candidate) where
  pub tried_wrong : (seen : Seen) (text : List ℕ) → may_have c.kind (length c.bytes) ≡ false → Tried (c ∷ []) false job n seen seen text text
  tried_wrong seen text unfit = ((no_fit c.kind c.bytes unfit, tt), refl, refl)

  -- they are no item of the kind
  pub tried_refused : (seen : Seen) (text : List ℕ) → ((e : EntryValue) → IsItem c.kind c.bytes e → ⊥) → Tried (c ∷ []) false job n seen seen text text
  tried_refused seen text none = ((none, tt), refl, refl)

  -- it was read
  pub tried_item : (v : Verdict) (e : Entry) (before after : Seen) (text text' : List ℕ) → IsVerdict c.kind c.bytes v → v ≡ Item e → Noted job n (item c (entry_value e) None) before after text text' → Tried (c ∷ []) true job n before after text text'
  tried_item v e before after text text' says is counted =
      let here : IsVerdict c.kind c.bytes (Item e) = subst (λ (z : Verdict). IsVerdict c.kind c.bytes z) is says in
      (c, entry_value e, inl (refl, here), counted)

  pub tried_seen : (before after : Seen) (text text' : List ℕ) → needs_values job ≡ false → (e : EntryValue) × IsItem c.kind c.bytes e → after.tally ≡ record before.tally { items = before.tally.items + 1 } → text' ≡ text ++ bytes_text job.good job.kinds c.kind c.bytes → Tried (c ∷ []) true job n before after text text'
  tried_seen before after text text' alone (e, is) counted t =
      let (all, ungrouped, none) = without_values job alone in
      (c, e, inl (refl, is), noted_alone job n (item c e None) before after text text' ungrouped (t ∙ ap (λ (z : List ℕ). text ++ z) (sym (said_bytes job n c e all none)), counted))

  none_other : (v : Verdict) → IsVerdict c.kind c.bytes v → ((e : Entry) → v ≡ Item e → ⊥) → (e : EntryValue) → IsItem c.kind c.bytes e → ⊥
  none_other (Item e) says not = absurd (not e refl)
  none_other (Refused i x) says not = says.0
  none_other TooShort says not = says.0
  none_other TooLong says not = says.0

  pub tried_vain : (v : Verdict) (seen : Seen) (text : List ℕ) → IsVerdict c.kind c.bytes v → ((e : Entry) → v ≡ Item e → ⊥) → Tried (c ∷ []) false job n seen seen text text
  tried_vain v seen text says not = ((none_other v says not, tt), refl, refl)

-- ---- What a line's texts are.

-- an item was found, and then another was reported
another_added : (x y z text t text' : List ℕ) → t ≡ text ++ (x ++ []) → text' ≡ t ++ y → text' ≡ text ++ (x ++ y)
another_added x y z text t text' h k = k ∙ ap (λ (l : List ℕ). l ++ y) (h ∙ ap (λ (l : List ℕ). text ++ l) (append-nil x)) ∙ append_assoc text x y

noted_another : (job : LogJob) (n : ℕ) (c : Candidate) (e : EntryValue) (another : Option Candidate) (before after : Seen) (text t text' : List ℕ) → Noted job n (item c e None) before after text t → text' ≡ t ++ another_said job n another → Noted job n (item c e another) before after text text'
noted_another job n c e another before after text t text' ((grown, counted), grouped) h = ((another_added (if picks job e then good_text job n c e job.good else []) (another_said job n another) [] text t text' grown h, counted), grouped)

pub answered_item : {T E : Type 0} (r : Result T E) (b : Bool) (job job' : LogJob) (n n' : ℕ) (seen others : List (List ℕ)) (line : List ℕ) (before mid after : Seen) (text t text' : List ℕ) → b ≡ true → job' ≡ job → n' ≡ n → after ≡ mid → AreNone (line_candidates job.kinds seen) → Tried (text_candidates job.kinds line) b job n before mid text t → OnOk r (AnotherSaid job' n' (line ∷ others) t text') → OnOk r (TextsAnswered job n (seen ++ line ∷ others) before after text text')
answered_item (Ok x) b job job' n n' seen others line before mid after text t text' is j k same none h said =
    let (c, e, first, counted) = subst (λ (z : Bool). Tried (text_candidates job.kinds line) z job n before mid text t) is h in
    let (another, quiet, loud, grown) = subst (λ (z : LogJob). AnotherSaid z n (line ∷ others) t text') j (subst (λ (z : ℕ). AnotherSaid job' z (line ∷ others) t text') k said) in
    (item c e another, (others, item_after job.kinds seen others line c e none first, quiet, loud), subst (λ (z : Seen). Noted job n (item c e another) before z text text') (sym same) (noted_another job n c e another before mid text t text' counted grown))
answered_item (Err x) b job job' n n' seen others line before mid after text t text' is j k same none h said = tt

-- none was found
-- a note that there is
abbrev note_in : Note → Option Note → Note
note_in why None = why
note_in why (Some x) = x

some_other : (o : Option (List ℕ)) (named : Bool) (why : Note) (r : Option Note) → r ≡ Some why → r ≡ option_map (other_note named) o → (bytes : List ℕ) × (o ≡ Some bytes) × (why ≡ other_note named bytes)
some_other (Some bytes) named why r is same = (bytes, refl, ap (note_in why) (sym is ∙ same))
some_other None named why r is same = cc (sym is ∙ same)

no_other : (o : Option (List ℕ)) (named : Bool) (r : Option Note) → r ≡ None → r ≡ option_map (other_note named) o → o ≡ None
no_other (Some bytes) named r is same = cc (sym is ∙ same)
no_other None named r is same = refl

pub answered_other : {T E : Type 0} (r : Result T E) (job : LogJob) (n : ℕ) (why : Note) (reports : Reports) (before after : Seen) (text text' : List ℕ) → reports.other ≡ Some why → OnOk r (Noted job n (other why) before after text text') → OnOk r ((texts : List (List ℕ)) → AreNone (line_candidates job.kinds texts) → AreReports job.kinds texts reports → TextsAnswered job n texts before after text text')
answered_other (Ok x) job n why reports before after text text' is counted = λ texts none h.
    let (bytes, found, same) = some_other (other_bytes job.kinds texts) reports.named why reports.other is h.other_is in
    (other why, (none, (bytes, found, same ∙ ap (λ (z : Bool). other_note z bytes) h.named_is)), counted)
answered_other (Err x) job n why reports before after text text' is counted = tt

pub answered_bad : {T E : Type 0} (r : Result T E) (job : LogJob) (n : ℕ) (reports : Reports) (before after : Seen) (text text' : List ℕ) → reports.other ≡ None → not job.strict && reports.is_text ≡ false → OnOk r (Noted job n (bad reports.note) before after text text') → OnOk r ((texts : List (List ℕ)) → AreNone (line_candidates job.kinds texts) → AreReports job.kinds texts reports → TextsAnswered job n texts before after text text')
answered_bad (Ok x) job n reports before after text text' is let_not counted = λ texts none h.
    (bad reports.note, (none, no_other (other_bytes job.kinds texts) reports.named reports.other is h.other_is, sym (ap (λ (z : Bool). not job.strict && z) h.text_is) ∙ let_not, subst (λ (z : Bool). IsNoteOf job.kinds z (first_bytes (is_asked job.kinds) texts) texts reports.note) h.named_is h.note_is), counted)
answered_bad (Err x) job n reports before after text text' is let_not counted = tt

pub answered_plain : (job : LogJob) (n : ℕ) (reports : Reports) (before : Seen) (text : List ℕ) → reports.other ≡ None → not job.strict && reports.is_text ≡ true → (texts : List (List ℕ)) → AreNone (line_candidates job.kinds texts) → AreReports job.kinds texts reports → TextsAnswered job n texts before (record before { tally = record before.tally { text = before.tally.text + 1 } }) text text
answered_plain job n reports before text is lets_it texts none h =
    (plain, (none, no_other (other_bytes job.kinds texts) reports.named reports.other is h.other_is, sym (ap (λ (z : Bool). not job.strict && z) h.text_is) ∙ lets_it), noted_plain job n before text)

-- what was tried where nothing had changed
pub tried_moved : (b : Bool) (cs : Kinds → List Candidate) (job job' : LogJob) (n n' : ℕ) (before mid after : Seen) (text t text' : List ℕ) → job' ≡ job → n' ≡ n → mid ≡ before → t ≡ text → Tried (cs job'.kinds) b job' n' mid after t text' → Tried (cs job.kinds) b job n before after text text'
tried_moved b cs job job' n n' before mid after text t text' j k m e h =
    subst (λ (z : LogJob). Tried (cs z.kinds) b z n before after text text') j (subst (λ (z : ℕ). Tried (cs job'.kinds) b job' z before after text text') k (subst (λ (z : Seen). Tried (cs job'.kinds) b job' n' z after text text') m (subst (λ (z : List ℕ). Tried (cs job'.kinds) b job' n' mid after z text') e h)))

-- the texts of a line
pub answered_same : {T E : Type 0} (r : Result T E) (job : LogJob) (n : ℕ) (texts texts' : List (List ℕ)) (before after : Seen) (text text' : List ℕ) → texts ≡ texts' → OnOk r (TextsAnswered job n texts before after text text') → OnOk r (TextsAnswered job n texts' before after text text')
answered_same r job n texts texts' before after text text' same h = subst (λ (z : List (List ℕ)). OnOk r (TextsAnswered job n z before after text text')) same h

-- after trials that changed nothing
pub answered_later : {T E : Type 0} (r : Result T E) (job job' : LogJob) (n n' : ℕ) (texts : List (List ℕ)) (before mid after : Seen) (text t text' : List ℕ) → job' ≡ job → n' ≡ n → mid ≡ before → t ≡ text → OnOk r (TextsAnswered job' n' texts mid after t text') → OnOk r (TextsAnswered job n texts before after text text')
answered_later (Ok x) job job' n n' texts before mid after text t text' j k m e (a, says, counted) =
    (a, subst (λ (z : LogJob). IsTextsAnswer z texts a) j says, later a job job' n n' before mid after text t text' j k m e counted)
answered_later (Err x) job job' n n' texts before mid after text t text' j k m e h = tt

-- the last bytes of a buffer, as a slice has them
pub slice_is : (buffer : List ℕ) (m k n : ℕ) → m ≡ length buffer → k ≡ length buffer → take (m - (k - n)) (drop (k - n) buffer) ≡ drop (length buffer - n) buffer
slice_is buffer m k n is len =
    let long : length (drop (k - n) buffer) ≡ m - (k - n) = omega (arith, is, length-drop (k - n) buffer) in
    ap (λ (j : ℕ). take j (drop (k - n) buffer)) (sym long) ∙ take-length (drop (k - n) buffer) ∙ ap (λ (j : ℕ). drop (j - n) buffer) len
