-- What is reported of a line while its texts are looked at.
use Rattle.std.proofs.Common.{◌≡◌, ◌++◌, ◌∷◌, ◌∙◌, ◌*◌, ◌-◌, ◌%◌, ◌<◌, ◌≤◌, drop, ◌==◌, ◌&&◌, ◌||◌, arith, cond, inl, inr, length, nat_lt, ℕ, Bool, true, false, List, [], Option, Some, None, Result, Ok, Err, ap, refl, sym, subst}
use Rattle.std.specs.Prelude.{◌⊎◌, not, is_some}
use Rattle.std.proofs.lemmas.Bool.{eqb-true, false_from_ne_true}
use Rattle.std.proofs.lemmas.List.{length-drop}
use Rattle.std.specs.Option.{option_map}
use Rattle.hex.specs.Hex.{decode_of, decode_pairs}
use Rattle.hex.proofs.HexLemmas.{decode_of-odd, decode_of-ok}
use Rattle.hex.specs.declared.error.FromHexError.{FromHexError}
use Rattle.std.specs.Char.{is_ascii_alphabetic}
use Rattle.std.specs.List.{list_any}
use Rattle.etcs_runs.specs.Answers.{Says}
use Rattle.etcs_runs.specs.Digits.{has_some, text_digits, text_front}
use Rattle.etcs_runs.specs.declared.digits.NoBytes.{NoBytes}
use Rattle.etcs_runs.specs.declared.digits.NoBytes.TheVariants.{Empty, NoDigits, OddDigits}
use Rattle.etcs_log.specs.declared.kinds.Kinds.{Kinds}
use Rattle.etcs_log.specs.declared.notes.Note.{Note}
use Rattle.etcs_log.specs.declared.notes.Note.TheVariants as note
use Rattle.etcs_log.specs.declared.reports.Reports.{Reports}
use Rattle.etcs_log.specs.Candidates.{is_asked, is_wanted}
use Rattle.etcs_log.specs.Logs.{IsBytesNote, IsNoteOf, IsTextNote, first_bytes, other_bytes, other_note, some_if, such_bytes, unless_asked}
use Rattle.etcs_log.specs.Reports.{AreReports, Sees, first_of}
use Rattle.etcs_log.specs.Texts.{are_named, are_text}
use Rattle.etcs_log.proofs.Answering.{no_asked}

not_zero : (n : ℕ) → 0 < n → (n == 0) ≡ false
not_zero n some = false_from_ne_true (n == 0) (λ is. absurd (omega (arith, some, eqb-true n 0 is)))

pub some_length : (xs : List ℕ) → not (length xs == 0) ≡ has_some xs
some_length [] = refl
some_length (x ∷ xs) = ap not (not_zero (length (x ∷ xs)) (omega arith))

-- ---- The bytes of texts.

if_first : (b : Bool) (bytes : List ℕ) (x y : Option (List ℕ)) → cond b (Some bytes) (first_of x y) ≡ first_of (cond b (Some bytes) x) y
if_first true bytes x y = refl
if_first false bytes x y = refl

such_first : (p : List ℕ → Bool) (r : Result (List ℕ) FromHexError) (x y : Option (List ℕ)) → such_bytes p r (first_of x y) ≡ first_of (such_bytes p r x) y
such_first p (Ok bytes) x y = if_first (p bytes) bytes x y
such_first p (Err e) x y = refl

first_bytes-push : (p : List ℕ → Bool) (texts : List (List ℕ)) (text bytes : List ℕ) → decode_of (text_digits text) ≡ Ok bytes → first_bytes p (texts ++ text ∷ []) ≡ first_of (first_bytes p texts) (some_if (p bytes) bytes)
first_bytes-push p [] text bytes is = ap (λ (z : Result (List ℕ) FromHexError). such_bytes p z None) is
first_bytes-push p (x ∷ xs) text bytes is = ap (λ (z : Option (List ℕ)). such_bytes p (decode_of (text_digits x)) z) (first_bytes-push p xs text bytes is) ∙ such_first p (decode_of (text_digits x)) (first_bytes p xs) (some_if (p bytes) bytes)

text_note : (kinds : Kinds) (named : Bool) (text bytes : List ℕ) (why : Note) → decode_of (text_digits text) ≡ Ok bytes → IsBytesNote kinds named bytes why → IsTextNote kinds named text why
text_note kinds named text bytes note.TooLong is h = absurd h
text_note kinds named text bytes note.NoDigits is h = absurd h
text_note kinds named text bytes (note.OddDigits n) is h = absurd h
text_note kinds named text bytes (note.Bytes needs count) is h = (bytes, is, h)
text_note kinds named text bytes (note.Refused kind r) is h = (bytes, is, h)
text_note kinds named text bytes (note.Other count) is h = absurd h
text_note kinds named text bytes (note.OtherBits kind) is h = absurd h
text_note kinds named text bytes (note.Another count) is h = absurd h

-- ---- The last text.

some_is : (b : Bool) (bytes : List ℕ) → b ≡ is_some (some_if b bytes)
some_is true bytes = refl
some_is false bytes = refl

note_if : (b : Bool) (kinds : Kinds) (named : Bool) (text bytes : List ℕ) (why : Note) → decode_of (text_digits text) ≡ Ok bytes → IsBytesNote kinds named bytes why → IsNoteOf kinds named (some_if b bytes) (text ∷ []) why
note_if true kinds named text bytes why is h = h
note_if false kinds named text bytes why is h = text_note kinds named text bytes why is h

module _ (kinds : Kinds) (text : List ℕ) (r : Reports) (named : r.named ≡ are_named (text ∷ [])) (is_text : r.is_text ≡ are_text (text ∷ [])) where
  pub reports_bytes : (bytes : List ℕ) → decode_of (text_digits text) ≡ Ok bytes → r.asked ≡ is_asked kinds bytes → IsBytesNote kinds r.named bytes r.note → r.other ≡ option_map (other_note r.named) (unless_asked (some_if (is_asked kinds bytes) bytes) (some_if (is_wanted bytes) bytes)) → AreReports kinds (text ∷ []) r
  reports_bytes bytes is asked why others =
      let asked_is = first_bytes-push (is_asked kinds) [] text bytes is in
      let wanted_is = first_bytes-push is_wanted [] text bytes is in
      record {
        named_is = named;
        text_is = is_text;
        asked_is = asked ∙ some_is (is_asked kinds bytes) bytes ∙ ap is_some (sym asked_is);
        note_is = subst (λ (z : Option (List ℕ)). IsNoteOf kinds r.named z (text ∷ []) r.note) (sym asked_is) (note_if (is_asked kinds bytes) kinds r.named text bytes r.note is why);
        other_is = others ∙ ap (λ (z : Option (List ℕ)). option_map (other_note r.named) (unless_asked z (some_if (is_wanted bytes) bytes))) (sym asked_is) ∙ ap (λ (z : Option (List ℕ)). option_map (other_note r.named) (unless_asked (first_bytes (is_asked kinds) (text ∷ [])) z)) (sym wanted_is);
      }

  -- without bytes
  reports_none : (o : Result (List ℕ) FromHexError) → decode_of (text_digits text) ≡ o → such_bytes (is_asked kinds) o None ≡ None → such_bytes is_wanted o None ≡ None → r.asked ≡ false → IsTextNote kinds r.named text r.note → r.other ≡ None → AreReports kinds (text ∷ []) r
  reports_none o is unasked unwanted asked why others =
      let asked_is : first_bytes (is_asked kinds) (text ∷ []) ≡ None = ap (λ (z : Result (List ℕ) FromHexError). such_bytes (is_asked kinds) z None) is ∙ unasked in
      let wanted_is : first_bytes is_wanted (text ∷ []) ≡ None = ap (λ (z : Result (List ℕ) FromHexError). such_bytes is_wanted z None) is ∙ unwanted in
      record {
        named_is = named;
        text_is = is_text;
        asked_is = asked ∙ ap is_some (sym asked_is);
        note_is = subst (λ (z : Option (List ℕ)). IsNoteOf kinds r.named z (text ∷ []) r.note) (sym asked_is) why;
        other_is = others ∙ ap (λ (z : Option (List ℕ)). option_map (other_note r.named) (unless_asked z None)) (sym asked_is) ∙ ap (λ (z : Option (List ℕ)). option_map (other_note r.named) (unless_asked (first_bytes (is_asked kinds) (text ∷ [])) z)) (sym wanted_is);
      }

  pub reports_odd : (e : FromHexError) → decode_of (text_digits text) ≡ Err e → r.asked ≡ false → IsTextNote kinds r.named text r.note → r.other ≡ None → AreReports kinds (text ∷ []) r
  reports_odd e is asked why others = reports_none (Err e) is refl refl asked why others

  pub reports_empty : text_digits text ≡ [] → r.asked ≡ false → IsTextNote kinds r.named text r.note → r.other ≡ None → AreReports kinds (text ∷ []) r
  unfolding decode_pairs
  reports_empty none asked why others = reports_none (Ok []) (ap decode_of none) (ap (λ (b : Bool). some_if b []) (no_asked kinds)) refl asked why others

-- the reports of its digits
text_by : (n d : ℕ) (letter : Bool) → n ≡ d → 0 < n → nat_lt n 20 && letter ≡ nat_lt d 20 && ((d == 0) || letter)
text_by n d letter same some = subst (λ (z : ℕ). nat_lt n 20 && letter ≡ nat_lt z 20 && ((z == 0) || letter)) same (ap (λ (b : Bool). nat_lt n 20 && (b || letter)) (sym (not_zero n some)))

pub of_bytes : (kinds : Kinds) (text bytes : List ℕ) (r : Reports) → decode_of (text_digits text) ≡ Ok bytes → 0 < length bytes → r.named ≡ has_some (text_front text) → r.is_text ≡ nat_lt (2 * length bytes) 20 && list_any is_ascii_alphabetic (text_front text) → r.asked ≡ is_asked kinds bytes → IsBytesNote kinds r.named bytes r.note → r.other ≡ option_map (other_note r.named) (unless_asked (some_if r.asked bytes) (some_if (is_wanted bytes) bytes)) → AreReports kinds (text ∷ []) r
of_bytes kinds text bytes r is some named plain asked why others =
    let letter = list_any is_ascii_alphabetic (text_front text) in
    let digits : 2 * length bytes ≡ length (text_digits text) = omega (arith, (decode_of-ok (text_digits text) bytes is).2) in
    reports_bytes kinds text r named (plain ∙ text_by (2 * length bytes) (length (text_digits text)) letter digits (omega (arith, some))) bytes is asked why (others ∙ ap (λ (b : Bool). option_map (other_note r.named) (unless_asked (some_if b bytes) (some_if (is_wanted bytes) bytes))) asked)

pub of_odd : (kinds : Kinds) (text buffer : List ℕ) (n : ℕ) (r : Reports) → Says (text_digits text) (Err (OddDigits n)) buffer → r.named ≡ has_some (text_front text) → r.is_text ≡ nat_lt n 20 && list_any is_ascii_alphabetic (text_front text) → r.asked ≡ false → r.note ≡ note.OddDigits n → r.other ≡ None → AreReports kinds (text ∷ []) r
of_odd kinds text buffer n r (same, is_odd) named plain asked why others =
    let some : 0 < n = omega (arith, is_odd) in
    reports_odd kinds text r named (plain ∙ text_by n (length (text_digits text)) (list_any is_ascii_alphabetic (text_front text)) same some) _ (decode_of-odd (text_digits text) (ap (λ (k : ℕ). k % 2) (sym same) ∙ is_odd)) asked (subst (λ (z : Note). IsTextNote kinds r.named text z) (sym why) (same, is_odd)) others

pub of_empty : (kinds : Kinds) (text : List ℕ) (r : Reports) → text_digits text ≡ [] → r.named ≡ has_some (text_front text) → r.is_text ≡ true → r.asked ≡ false → r.note ≡ note.NoDigits → r.other ≡ None → AreReports kinds (text ∷ []) r
of_empty kinds text r none named plain asked why others =
    let empty : are_text (text ∷ []) ≡ true = ap (λ (n : ℕ). nat_lt n 20 && ((n == 0) || list_any is_ascii_alphabetic (text_front text))) (ap length none) in
    reports_empty kinds text r named (plain ∙ sym empty) none asked (subst (λ (z : Note). IsTextNote kinds r.named text z) (sym why) none) others

-- it has no digits
pub no_digits : (digits buffer : List ℕ) (why : NoBytes) → (why ≡ NoDigits) ⊎ (why ≡ Empty) → Says digits (Err why) buffer → digits ≡ []
no_digits digits buffer why (inl is) says = subst (λ (z : NoBytes). Says digits (Err z) buffer) is says
no_digits digits buffer why (inr is) says = let wrong : Says digits (Err Empty) buffer = subst (λ (z : NoBytes). Says digits (Err z) buffer) is says in absurd wrong

-- there are as many bytes as it says
pub slice_some : (buffer bytes : List ℕ) (n : ℕ) → 0 < n → n ≤ length buffer → bytes ≡ drop (length buffer - n) buffer → 0 < length bytes
slice_some buffer bytes n some room same = omega (arith, some, room, ap length same, length-drop (length buffer - n) buffer)

-- ---- A text more.

map_first : (f : List ℕ → Note) (x y : Option (List ℕ)) → option_map f (first_of x y) ≡ first_of (option_map f x) (option_map f y)
map_first f None y = refl
map_first f (Some a) y = refl

same_note : (kinds : Kinds) (named : Bool) (a : Option (List ℕ)) (last : List ℕ) (texts texts' : List (List ℕ)) (why : Note) → IsNoteOf kinds named a (last ∷ texts) why → IsNoteOf kinds named a (last ∷ texts') why
same_note kinds named (Some bytes) last texts texts' why h = h
same_note kinds named None last texts texts' why h = h

-- what stays of two and what is new, by whether bytes are asked for
more_by : (asked : Bool) (kinds : Kinds) (last : List ℕ) (texts texts' : List (List ℕ)) (bytes : List ℕ) (a w w' : Option (List ℕ)) (old new : Reports) → is_asked kinds bytes ≡ asked → w' ≡ first_of w (some_if (is_wanted bytes) bytes) → old.asked ≡ is_some a → IsNoteOf kinds old.named a (last ∷ texts) old.note → old.other ≡ option_map (other_note old.named) (unless_asked a w) → Sees kinds bytes old new → (new.asked ≡ is_some (first_of a (some_if asked bytes))) × IsNoteOf kinds old.named (first_of a (some_if asked bytes)) (last ∷ texts') new.note × (new.other ≡ option_map (other_note old.named) (unless_asked (first_of a (some_if asked bytes)) w'))
more_by asked kinds last texts texts' bytes (Some x) w w' old new is more was why others sees =
    let same = sees.2 was in
    (ap (λ (z : Reports). z.asked) same ∙ was, subst (λ (z : Reports). IsNoteOf kinds old.named (Some x) (last ∷ texts') z.note) (sym same) why, ap (λ (z : Reports). z.other) same ∙ others)
more_by true kinds last texts texts' bytes None w w' old new is more was why others sees =
    let now = sees.3 was is in
    (now.0, now.1, now.2)
more_by false kinds last texts texts' bytes None w w' old new is more was why others sees =
    let now = sees.4 was is in
    (now.0, subst (λ (z : Note). IsTextNote kinds old.named last z) (sym now.1) why, now.2 ∙ ap (λ (z : Option Note). first_of z (option_map (other_note old.named) (some_if (is_wanted bytes) bytes))) others ∙ sym (map_first (other_note old.named) w (some_if (is_wanted bytes) bytes)) ∙ ap (option_map (other_note old.named)) (sym more))

pub reports_more : (kinds : Kinds) (last : List ℕ) (texts : List (List ℕ)) (text bytes : List ℕ) (old new : Reports) → decode_of (text_digits text) ≡ Ok bytes → Sees kinds bytes old new → AreReports kinds (last ∷ texts) old → AreReports kinds (last ∷ (texts ++ text ∷ [])) new
reports_more kinds last texts text bytes old new is sees h =
    let all = last ∷ texts in
    let asked_is = first_bytes-push (is_asked kinds) all text bytes is in
    let wanted_is = first_bytes-push is_wanted all text bytes is in
    let (asked, why, others) = more_by (is_asked kinds bytes) kinds last texts (texts ++ text ∷ []) bytes (first_bytes (is_asked kinds) all) (first_bytes is_wanted all) (first_bytes is_wanted (all ++ text ∷ [])) old new refl wanted_is h.asked_is h.note_is h.other_is sees in
    let named = sees.0 in
    record {
      named_is = named ∙ h.named_is;
      text_is = sees.1 ∙ h.text_is;
      asked_is = asked ∙ ap is_some (sym asked_is);
      note_is = subst (λ (z : Bool). IsNoteOf kinds z (first_bytes (is_asked kinds) (all ++ text ∷ [])) (all ++ text ∷ []) new.note) (sym named) (subst (λ (z : Option (List ℕ)). IsNoteOf kinds old.named z (all ++ text ∷ []) new.note) (sym asked_is) why);
      other_is = subst (λ (z : Bool). new.other ≡ option_map (other_note z) (other_bytes kinds (all ++ text ∷ []))) (sym named) (others ∙ ap (λ (z : Option (List ℕ)). option_map (other_note old.named) (unless_asked z (first_bytes is_wanted (all ++ text ∷ [])))) (sym asked_is));
    }

-- a text without bytes
first_bytes-none : (p : List ℕ → Bool) (texts : List (List ℕ)) (text : List ℕ) (r : Result (List ℕ) FromHexError) → decode_of (text_digits text) ≡ r → such_bytes p r None ≡ None → first_bytes p (texts ++ text ∷ []) ≡ first_bytes p texts
first_bytes-none p [] text r is none = ap (λ (z : Result (List ℕ) FromHexError). such_bytes p z None) is ∙ none
first_bytes-none p (x ∷ xs) text r is none = ap (λ (z : Option (List ℕ)). such_bytes p (decode_of (text_digits x)) z) (first_bytes-none p xs text r is none)

pub reports_same : (kinds : Kinds) (last : List ℕ) (texts : List (List ℕ)) (text : List ℕ) (r : Result (List ℕ) FromHexError) (old : Reports) → decode_of (text_digits text) ≡ r → such_bytes (is_asked kinds) r None ≡ None → such_bytes is_wanted r None ≡ None → AreReports kinds (last ∷ texts) old → AreReports kinds (last ∷ (texts ++ text ∷ [])) old
reports_same kinds last texts text r old is unasked unwanted h =
    let all = last ∷ texts in
    let asked_is = first_bytes-none (is_asked kinds) all text r is unasked in
    let wanted_is = first_bytes-none is_wanted all text r is unwanted in
    record {
      named_is = h.named_is;
      text_is = h.text_is;
      asked_is = h.asked_is ∙ ap is_some (sym asked_is);
      note_is = subst (λ (z : Option (List ℕ)). IsNoteOf kinds old.named z (all ++ text ∷ []) old.note) (sym asked_is) (same_note kinds old.named (first_bytes (is_asked kinds) all) last texts (texts ++ text ∷ []) old.note h.note_is);
      other_is = h.other_is ∙ ap (λ (z : Option (List ℕ)). option_map (other_note old.named) (unless_asked z (first_bytes is_wanted all))) (sym asked_is) ∙ ap (λ (z : Option (List ℕ)). option_map (other_note old.named) (unless_asked (first_bytes (is_asked kinds) (all ++ text ∷ [])) z)) (sym wanted_is);
    }

pub seen_none : (kinds : Kinds) (last : List ℕ) (texts : List (List ℕ)) (text buffer : List ℕ) (why : NoBytes) (old : Reports) → Says (text_digits text) (Err why) buffer → AreReports kinds (last ∷ texts) old → AreReports kinds (last ∷ (texts ++ text ∷ [])) old
unfolding decode_pairs
seen_none kinds last texts text buffer Empty old says h = absurd says
seen_none kinds last texts text buffer NoDigits old says h = reports_same kinds last texts text (Ok []) old (ap decode_of says) (ap (λ (b : Bool). some_if b []) (no_asked kinds)) refl h
seen_none kinds last texts text buffer (OddDigits n) old (same, is_odd) h = reports_same kinds last texts text (Err _) old (decode_of-odd (text_digits text) (ap (λ (k : ℕ). k % 2) (sym same) ∙ is_odd)) refl refl h
