-- Lines that are answered one after another.
use Rattle.std.proofs.Common.{◌≡◌, ℕ, ◌+◌, ◌-◌, ◌<◌, ◌≤◌, ◌^◌, Bool, true, false, cond, List, [], ◌∷◌, ◌++◌, length, take, Result, Ok, Err, refl, sym, ap, subst, ◌∙◌, arith, inl, inr}
use Rattle.std.specs.Prelude.{◌⊎◌, ⊤, All, IfErr, IfOk, OnErr}
use Rattle.std.specs.Io.BufRead.{ends_with_byte}
use Rattle.std.proofs.lemmas.List.{append-nil, append_assoc, length-append, length-take-le}
use Rattle.std.proofs.lemmas.List.Elements.{All-nil, All-push}
use Rattle.etcs_runs.specs.Faults.{IsOfEngine}
use Rattle.etcs_runs.specs.declared.fault.RunFault.{RunFault}
use Rattle.etcs_runs.specs.declared.fault.RunFault.TheVariants.{Memory}
use Rattle.etcs_runs.specs.Lines.{IsLine, lines_text, strip_cr}
use Rattle.etcs_log.specs.declared.job.LogJob.{LogJob}
use Rattle.etcs_log.specs.declared.job.LogTally.{LogTally}
use Rattle.etcs_log.specs.declared.notes.Note.TheVariants.{TooLong}
use Rattle.etcs_log.specs.declared.seen.Seen.{Seen}
use Rattle.etcs_telegram.specs.Telegrams.{TelegramValue}
use Rattle.etcs_group.specs.declared.groups.Group.{Group}
use Rattle.etcs_log.specs.LogGroups.{AreGroups, telegram_of}
use Rattle.etcs_log.specs.Logs.{Answer, passed, item, other, plain, bad, IsAnswer, AreAnswers, Answered, EndText, IsLog, lines_in, no_lines, output_of, said, tallied, tally_of, telegrams_in}
use Rattle.etcs_log.specs.Promised.{AllOutput, FirstOutput, FrontOutput}
use Rattle.etcs_log.specs.laws.LogLaws.{All-left}
use Rattle.etcs_log.specs.Stands.{AreAnswered, LogTook}

pub answers-push : (job : LogJob) (lines : List (List ℕ)) (others : List Answer) (line : List ℕ) (a : Answer) → AreAnswers job lines others → IsAnswer job (strip_cr line) a → AreAnswers job (lines ++ line ∷ []) (others ++ a ∷ [])
answers-push job [] [] line a h k = (k, tt)
answers-push job [] (b ∷ bs) line a h k = absurd h
answers-push job (l ∷ ls) [] line a h k = absurd h
answers-push job (l ∷ ls) (b ∷ bs) line a h k = (h.0, answers-push job ls bs line a h.1 k)

answers_count : (job : LogJob) (lines : List (List ℕ)) (others : List Answer) → AreAnswers job lines others → length others ≡ length lines
answers_count job [] [] h = refl
answers_count job [] (b ∷ bs) h = absurd h
answers_count job (l ∷ ls) [] h = absurd h
answers_count job (l ∷ ls) (b ∷ bs) h = omega (arith, answers_count job ls bs h.1)

one_few : (t : LogTally) (a : Answer) → lines_in (tallied t a) ≤ lines_in t + 1
one_few t passed = omega arith
one_few t (item c e another) = omega arith
one_few t (other note) = omega arith
one_few t plain = omega arith
one_few t (bad note) = omega arith

lines_few : (t : LogTally) (others : List Answer) → lines_in (tally_of t others) ≤ lines_in t + length others
lines_few t [] = omega arith
lines_few t (a ∷ others) = omega (arith, lines_few (tallied t a) others, one_few t a)

tally_of-push : (t : LogTally) (others : List Answer) (a : Answer) → tally_of t (others ++ a ∷ []) ≡ tallied (tally_of t others) a
tally_of-push t [] a = refl
tally_of-push t (b ∷ others) a = tally_of-push (tallied t b) others a

telegrams_in-push : (others : List Answer) (a : Answer) → telegrams_in (others ++ a ∷ []) ≡ telegrams_in others ++ telegrams_in (a ∷ [])
telegrams_in-push [] a = refl
telegrams_in-push (passed ∷ others) a = telegrams_in-push others a
telegrams_in-push (item c e another ∷ others) a = ap (λ (z : List TelegramValue). telegram_of e ++ z) (telegrams_in-push others a) ∙ sym (append_assoc (telegram_of e) (telegrams_in others) (telegrams_in (a ∷ [])))
telegrams_in-push (other note ∷ others) a = telegrams_in-push others a
telegrams_in-push (plain ∷ others) a = telegrams_in-push others a
telegrams_in-push (bad note ∷ others) a = telegrams_in-push others a

-- of a line after them, what is said
output_of-push : (job : LogJob) (n m : ℕ) (others : List Answer) (a : Answer) → m ≡ n + length others → output_of job n (others ++ a ∷ []) ≡ output_of job n others ++ said job m a
output_of-push job n m [] a e =
    let same : n ≡ m = omega (arith, e) in
    append-nil (said job n a) ∙ ap (λ (z : ℕ). said job z a) same
output_of-push job n m (b ∷ others) a e = ap (λ (z : List ℕ). said job n b ++ z) (output_of-push job (n + 1) m others a (omega (arith, e))) ∙ sym (append_assoc (said job n b) (output_of job (n + 1) others) (said job m a))

-- ---- What was answered.

-- a line more
answered_more : (job : LogJob) (lines : List (List ℕ)) (n : ℕ) (line : List ℕ) (seen seen' : Seen) (output before text text' : List ℕ) → AreAnswered job lines seen output → output ≡ before ++ text → n ≡ length lines + 1 → Answered job n (strip_cr line) seen seen' text text' → AreAnswered job (lines ++ line ∷ []) seen' (before ++ text')
answered_more job lines n line seen seen' output before text text' h t e (a, is, ((grown, counted), grouped)) =
    let count = answers_count job lines h.answers h.are_answers in
    let more = output_of-push job 1 n h.answers a (omega (arith, e, count)) in
    record {
      answers = h.answers ++ a ∷ [];
      are_answers = answers-push job lines h.answers line a h.are_answers is;
      output_is = ap (λ (z : List ℕ). before ++ z) grown ∙ sym (append_assoc before text (said job n a)) ∙ ap (λ (z : List ℕ). z ++ said job n a) (sym t ∙ h.output_is) ∙ sym more;
      tally_is = counted ∙ ap (λ (z : LogTally). tallied z a) h.tally_is ∙ sym (tally_of-push no_lines h.answers a);
      groups_are = λ asked. subst (λ (z : List TelegramValue). AreGroups z seen'.groups) (sym (telegrams_in-push h.answers a)) (grouped asked (telegrams_in h.answers) (h.groups_are asked));
    }

-- a line whose text was written by itself, and then after another
pub answered_on : (job : LogJob) (n : ℕ) (line : List ℕ) (seen seen' : Seen) (written text text' : List ℕ) → Answered job n line seen seen' [] written → text' ≡ text ++ written → Answered job n line seen seen' text text'
answered_on job n line seen seen' written text text' (a, is, ((grown, counted), grouped)) added =
    (a, is, ((added ∙ ap (λ (z : List ℕ). text ++ z) grown, counted), grouped))

-- ---- What was taken.

pub took_nothing : (job : LogJob) (line : ℕ) (seen : Seen) → line ≡ 0 → seen.tally ≡ no_lines → seen.groups ≡ [] → LogTook job line seen [] []
took_nothing job line seen l t g = record {
  are_lines = All-nil IsLine;
  line_is = l;
  answered = record { answers = []; are_answers = tt; output_is = refl; tally_is = t; groups_are = λ asked. subst (λ (z : List Group). AreGroups [] z) (sym g) ([], refl, refl) };
}

-- no more than there are lines
pub took_few : (job : LogJob) (line : ℕ) (seen : Seen) → (lines : List (List ℕ)) × (output : List ℕ) × LogTook job line seen lines output × (length lines < 2 ^ 62) → (line < 2 ^ 63) × (lines_in seen.tally < 2 ^ 63)
took_few job line seen (lines, output, h, short) =
    let count = answers_count job lines h.answered.answers h.answered.are_answers in
    let few = lines_few no_lines h.answered.answers in
    (omega (arith, short, h.line_is), omega (arith, short, count, few, ap lines_in h.answered.tally_is))

-- the next line was answered
pub took_more : (job job' : LogJob) (line line' : ℕ) (seen seen' : Seen) (lines : List (List ℕ)) (raw cut before text text' : List ℕ) → LogTook job line seen lines (before ++ text) → IsLine raw → cut ≡ strip_cr raw → job' ≡ job → line' ≡ line + 1 → Answered job (line + 1) cut seen seen' text text' → LogTook job' line' seen' (lines ++ raw ∷ []) (before ++ text')
took_more job job' line line' seen seen' lines raw cut before text text' h l e same n answered =
    let here : LogTook job line' seen' (lines ++ raw ∷ []) (before ++ text') = record {
      are_lines = All-push IsLine lines raw h.are_lines l;
      line_is = omega (arith, n, h.line_is, length-append lines (raw ∷ []));
      answered = answered_more job lines (line + 1) raw seen seen' (before ++ text) before text text' h.answered refl (omega (arith, h.line_is)) (subst (λ (z : List ℕ). Answered job (line + 1) z seen seen' text text') e answered);
    } in
    subst (λ (j : LogJob). LogTook j line' seen' (lines ++ raw ∷ []) (before ++ text')) (sym same) here

-- the text of the lines before it is there
pub took_front : (job : LogJob) (line : ℕ) (seen : Seen) (lines : List (List ℕ)) (rest before text text' : List ℕ) → LogTook job line seen lines (before ++ text) → text' ≡ text → FirstOutput job (lines_text lines ++ rest) (before ++ text')
took_front job line seen lines rest before text text' h none =
    let here : FrontOutput job (lines_text lines ++ rest) rest (before ++ text) = record {
      lines = lines;
      part = [];
      given_is = ap (λ (z : List ℕ). z ++ rest) (sym (append-nil (lines_text lines)));
      are_lines = (h.are_lines, All-nil (λ c. c ≡ 10 → ⊥));
      lines_output = inl (record { answers = h.answered.answers; are_answers = h.answered.are_answers; output_is = h.answered.output_is });
    } in
    (rest, subst (λ (z : List ℕ). FrontOutput job (lines_text lines ++ rest) rest (before ++ z)) (sym none) here)

-- no text was there yet
pub took_empty : (job : LogJob) (line : ℕ) (seen : Seen) (lines : List (List ℕ)) (output text : List ℕ) → text ≡ [] → LogTook job line seen lines output → LogTook job line seen lines (output ++ text)
took_empty job line seen lines output text none h = subst (λ (z : List ℕ). LogTook job line seen lines z) (sym (ap (λ (z : List ℕ). output ++ z) none ∙ append-nil output)) h

-- ---- The end of a log.

-- the last line was taken, and then the counts were written
pub ended_if : {E : Type 0} (r : Result LogTally E) (job job' : LogJob) (line : ℕ) (seen : Seen) (lines : List (List ℕ)) (last before text text' : List ℕ) → LogTook job' line seen (lines ++ last ∷ []) (before ++ text) → job' ≡ job → IsLine last → IfOk r (λ t. (t ≡ seen.tally) × ((end : List ℕ) × EndText job' t seen.groups end × (text' ≡ text ++ end))) → IfOk r (λ t. IsLog job (lines_text lines ++ last) (before ++ text') t)
ended_if (Ok t) job job' line seen lines last before text text' h same l (is, (end, output, grown)) =
    let here : IsLog job' (lines_text lines ++ last) (before ++ text') seen.tally = record {
      lines = lines;
      last = last;
      given_is = refl;
      are_lines = (All-left lines (last ∷ []) h.are_lines, l);
      answers = h.answered.answers;
      are_answers = h.answered.are_answers;
      groups = seen.groups;
      end = end;
      output_is = ap (λ (z : List ℕ). before ++ z) grown ∙ sym (append_assoc before text end) ∙ ap (λ (z : List ℕ). z ++ end) h.answered.output_is;
      end_is = subst (λ (z : LogTally). EndText job' z seen.groups end) is output;
      groups_are = h.answered.groups_are;
      tally_is = h.answered.tally_is;
    } in
    subst (λ (j : LogJob). IsLog j (lines_text lines ++ last) (before ++ text') t) same (subst (λ (z : LogTally). IsLog job' (lines_text lines ++ last) (before ++ text') z) (sym is) here)
ended_if (Err e) job job' line seen lines last before text text' h same l k = tt

-- or in vain
pub ended_not : {T : Type 0} (r : Result T RunFault) (job job' : LogJob) (line : ℕ) (seen : Seen) (lines : List (List ℕ)) (last before text text' : List ℕ) → LogTook job' line seen (lines ++ last ∷ []) (before ++ text) → job' ≡ job → IsLine last → IfErr r (λ e. (e ≡ Memory) × (text' ≡ text)) → IfErr r (λ e. IsOfEngine e × ((e ≡ Memory) × (FirstOutput job (lines_text lines ++ last) (before ++ text') ⊎ AllOutput job (lines_text lines ++ last) (before ++ text'))))
ended_not (Ok t) job job' line seen lines last before text text' h same l k = tt
ended_not (Err e) job job' line seen lines last before text text' h same l (is, none) =
    let here : AllOutput job' (lines_text lines ++ last) (before ++ text) = record {
      lines = lines;
      last = last;
      given_is = refl;
      are_lines = (All-left lines (last ∷ []) h.are_lines, l);
      lines_output = record { answers = h.answered.answers; are_answers = h.answered.are_answers; output_is = h.answered.output_is };
    } in
    let moved = subst (λ (z : List ℕ). AllOutput job' (lines_text lines ++ last) (before ++ z)) (sym none) here in
    (subst IsOfEngine (sym is) tt, (is, inr (subst (λ (j : LogJob). AllOutput j (lines_text lines ++ last) (before ++ text')) same moved)))

-- a fault says no more
pub no_more : {T E : Type 0} (r : Result T E) → OnErr r ⊤
no_more (Ok x) = tt
no_more (Err e) = tt

-- ---- A line that is too long.

pub long_line : (job : LogJob) (line : List ℕ) → 1048576 < length line → IsAnswer job line (bad TooLong)
long_line job line long = inl (long, refl)

stripped : (b : Bool) (line : List ℕ) → length line ≤ length (cond b (take (length line - 1) line) line) + 1
stripped true line = omega (arith, length-take-le (length line - 1) line (omega arith))
stripped false line = omega arith

-- however it continues
pub long_more : (job : LogJob) (part rest : List ℕ) → 1048577 < length part → IsAnswer job (strip_cr (part ++ rest)) (bad TooLong)
long_more job part rest long =
    let line = part ++ rest in
    long_line job (strip_cr line) (omega (arith, long, length-append part rest, stripped (ends_with_byte 13 line) line))
