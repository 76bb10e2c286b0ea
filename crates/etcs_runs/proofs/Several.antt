-- Lines that are taken together.
use Rattle.std.proofs.Common.{◌≡◌, ℕ, ◌+◌, ◌-◌, ◌<◌, ◌≤◌, List, [], ◌∷◌, ◌++◌, length, take, drop, refl, sym, ap, subst, ◌∙◌, arith, append_assoc, length-append, drop_at, take_at, take-take}
use Rattle.std.proofs.lemmas.List.{append-nil, take-append-drop}
use Rattle.std.proofs.lemmas.List.Elements.{All-append, All-cons, All-nil}
use Rattle.etcs_runs.specs.declared.fault.RunFault.TheVariants.{Memory}
use Rattle.etcs_runs.specs.Handling.{LinesTaken}
use Rattle.etcs_runs.specs.Lines.{IsAfterLf, IsLine, lines_text}
use Rattle.etcs_runs.specs.Promises.{Promises, Sound}
use Rattle.etcs_runs.proofs.Keeping.{memory_stops}
use Rattle.etcs_runs.proofs.LineTexts.{after_front, head_line, lines_text-append, one_line, tail_line}

-- none is taken
pub none_of : (Took : List (List ℕ) → List ℕ → Type 0) (rest : List ℕ) (whole : ℕ) (text : List ℕ) → LinesTaken Took Took rest whole text text 0 0
none_of Took rest whole text = record {
  taken = [];
  beyond = rest;
  rest_is = refl;
  are_lines = All-nil IsLine;
  bytes_is = refl;
  within = omega arith;
  count_is = refl;
  took = λ lines output h. subst (λ (z : List (List ℕ)). Took z (output ++ text)) (sym (append-nil lines)) h;
}

-- a line ends at the first LF
first_within : (raw beyond front more : List ℕ) → IsLine raw → raw ++ 10 ∷ beyond ≡ front ++ 10 ∷ more → length raw ≤ length front
first_within [] beyond front more l is = omega arith
first_within (c ∷ raw) beyond [] more l is = let f : c ≡ 10 = cc in absurd (head_line c raw l f)
first_within (c ∷ raw) beyond (d ∷ front) more l is =
    let tails : raw ++ 10 ∷ beyond ≡ front ++ 10 ∷ more = cc in
    omega (arith, first_within raw beyond front more (tail_line c raw l) tails)

lf_within : (rest raw beyond : List ℕ) (whole : ℕ) → IsAfterLf rest whole → rest ≡ raw ++ 10 ∷ beyond → IsLine raw → length raw + 1 ≤ whole
lf_within rest raw beyond whole (front, more, is, at) e l = omega (arith, at, first_within raw beyond front more l (sym e ∙ is))

-- the first one is taken
pub first_taken : {Took Took' : List (List ℕ) → List ℕ → Type 0} (rest raw beyond : List ℕ) (whole : ℕ) (text text' : List ℕ) (n : ℕ) → IsAfterLf rest whole → rest ≡ raw ++ 10 ∷ beyond → IsLine raw → n ≡ length raw + 1 → ((lines : List (List ℕ)) (output : List ℕ) → Took lines (output ++ text) → Took' (lines ++ raw ∷ []) (output ++ text')) → LinesTaken Took Took' rest whole text text' n 1
first_taken rest raw beyond whole text text' n lf is l long took = record {
  taken = raw ∷ [];
  beyond = beyond;
  rest_is = is ∙ sym (one_line raw beyond);
  are_lines = All-cons IsLine raw [] l (All-nil IsLine);
  bytes_is = omega (arith, long, length-append (raw ++ 10 ∷ []) [], length-append raw (10 ∷ []));
  within = omega (arith, long, lf_within rest raw beyond whole lf is l);
  count_is = refl;
  took = took;
}

-- the text after the lines
pub rest_after : {Took Took' : List (List ℕ) → List ℕ → Type 0} {rest : List ℕ} {whole : ℕ} {text text' : List ℕ} {bytes count : ℕ} (h : LinesTaken Took Took' rest whole text text' bytes count) → drop bytes rest ≡ h.beyond
rest_after {rest = rest} {bytes = bytes} h = ap (drop bytes) h.rest_is ∙ drop_at (lines_text h.taken) h.beyond bytes (sym h.bytes_is)

-- what is after a LF
pub lf_after : {Took Took' : List (List ℕ) → List ℕ → Type 0} {rest : List ℕ} {whole : ℕ} {text text' : List ℕ} {bytes count : ℕ} (h : LinesTaken Took Took' rest whole text text' bytes count) → IsAfterLf rest whole → bytes < whole → IsAfterLf (drop bytes rest) (whole - bytes)
lf_after {rest = rest} {whole = whole} {bytes = bytes} h lf below =
    let place : whole ≡ length (lines_text h.taken) + (whole - bytes) = omega (arith, h.bytes_is, below) in
    let all : IsAfterLf (lines_text h.taken ++ h.beyond) (length (lines_text h.taken) + (whole - bytes)) = subst (λ (k : ℕ). IsAfterLf (lines_text h.taken ++ h.beyond) k) place (subst (λ (z : List ℕ). IsAfterLf z whole) h.rest_is lf) in
    subst (λ (z : List ℕ). IsAfterLf z (whole - bytes)) (sym (rest_after h)) (after_front (lines_text h.taken) h.beyond (whole - bytes) (omega (arith, below)) all)

-- others are taken after them
pub more_taken : {Took Took' Took'' : List (List ℕ) → List ℕ → Type 0} (rest : List ℕ) (whole : ℕ) (text text' text'' : List ℕ) (bytes count n m : ℕ) → LinesTaken Took Took' rest whole text text' bytes count → LinesTaken Took' Took'' (drop bytes rest) (whole - bytes) text' text'' n m → LinesTaken Took Took'' rest whole text text'' (bytes + n) (count + m)
more_taken {Took'' = Took''} rest whole text text' text'' bytes count n m h k = record {
  taken = h.taken ++ k.taken;
  beyond = k.beyond;
  rest_is =
      h.rest_is
      ∙ ap (λ (z : List ℕ). lines_text h.taken ++ z) (sym (rest_after h) ∙ k.rest_is)
      ∙ sym (append_assoc (lines_text h.taken) (lines_text k.taken) k.beyond)
      ∙ ap (λ (z : List ℕ). z ++ k.beyond) (sym (lines_text-append h.taken k.taken));
  are_lines = All-append IsLine h.taken k.taken h.are_lines k.are_lines;
  bytes_is = omega (arith, h.bytes_is, k.bytes_is, ap length (lines_text-append h.taken k.taken), length-append (lines_text h.taken) (lines_text k.taken));
  within = omega (arith, h.within, k.within);
  count_is = omega (arith, h.count_is, k.count_is, length-append h.taken k.taken);
  took = λ lines output x. subst (λ (z : List (List ℕ)). Took'' z (output ++ text'')) (append_assoc lines h.taken k.taken) (k.took (lines ++ h.taken) output (h.took lines output x));
}

-- memory was refused after them
module _ {T : Type 0} (p : Promises T) (sound : Sound p) {Took Took' : List (List ℕ) → List ℕ → Type 0} (outputs : (lines : List (List ℕ)) (begun output : List ℕ) → Took' lines output → IsLine begun → p.Outputs (lines_text lines ++ begun) output) where
  pub starved : (rest : List ℕ) (whole : ℕ) (text text' : List ℕ) (bytes count : ℕ) → LinesTaken Took Took' rest whole text text' bytes count → (lines : List (List ℕ)) (more output : List ℕ) → Took lines (output ++ text) → p.Stops (lines_text lines ++ (take whole rest ++ more)) (output ++ text') Memory
  starved rest whole text text' bytes count h lines more output x =
      let front = take whole rest in
      let begins : take bytes front ≡ lines_text h.taken =
      take-take bytes whole rest h.within ∙ ap (take bytes) h.rest_is ∙ take_at (lines_text h.taken) h.beyond bytes (sym h.bytes_is)
      in
      let all : front ++ more ≡ lines_text h.taken ++ (drop bytes front ++ more) =
      ap (λ (z : List ℕ). z ++ more) (sym (take-append-drop bytes front) ∙ ap (λ (z : List ℕ). z ++ drop bytes front) begins) ∙ append_assoc (lines_text h.taken) (drop bytes front) more
      in
      let is : lines_text (lines ++ h.taken) ++ (drop bytes front ++ more) ≡ lines_text lines ++ (front ++ more) =
      ap (λ (z : List ℕ). z ++ (drop bytes front ++ more)) (lines_text-append lines h.taken)
      ∙ append_assoc (lines_text lines) (lines_text h.taken) (drop bytes front ++ more)
      ∙ ap (λ (z : List ℕ). lines_text lines ++ z) (sym all)
      in
      subst (λ (z : List ℕ). p.Stops z (output ++ text') Memory) is
      (memory_stops p sound (lines ++ h.taken) (drop bytes front ++ more) (output ++ text') (outputs (lines ++ h.taken) [] (output ++ text') (h.took lines output x) (All-nil (λ c. c ≡ 10 → ⊥))))
