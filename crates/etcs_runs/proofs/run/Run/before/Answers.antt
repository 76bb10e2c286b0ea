use Rattle.std.proofs.Common.{◌≡◌, ◌∷◌, ◌∙◌, ◌+◌, ◌-◌, ◌<◌, ◌≤◌, ◌++◌, List, ℕ, Bool, true, false, length, length-append, sym, ap, subst, arith}
use Rattle.etcs_runs.specs.declared.words.Cut.TheVariants.{Joints}
use Rattle.etcs_runs.specs.Cuts.{parts_at}
use Rattle.etcs_runs.specs.Digits.{are_enough, before_words, is_joint, last_first, run_words, text_digits}
use Rattle.etcs_runs.specs.Finds.{IsKnown}
use Rattle.etcs_runs.specs.LineRuns.{runs_before}
use Rattle.etcs_runs.proofs.Befores.{run_before}
use Rattle.etcs_runs.proofs.Fronts.{before_digits-shorter, before_words-begins}
use Rattle.etcs_runs.proofs.Lengths.{too_short}
use Rattle.etcs_runs.proofs.Starts.{front_known}
use Rattle.etcs_runs.proofs.run.Run.before.Goals as goal
use Rattle.etcs_runs.proofs.run.Run.before.Goals.{then-not-self-via-then-not-self, then-not-self-via-else-not-self+then-self-eq0, then-not-self-via-else-not-self+else-self-eq0+then-self-lt-ENOUGH}

pub returns-then-not-self-clause-none : goal.returns-then-not-self-clause-none
returns-then-not-self-clause-none c =
    let run = c.args.self.now in
    let text = run.text.now in
    λ _. elim c.then-not-self.branch [
      | then-not-self-via-then-not-self w ↦ ap (λ (b : Bool). text ∷ runs_before b run.left text) w.if-not-self.true
      | then-not-self-via-else-not-self+then-self-eq0 w ↦ ap (λ (n : ℕ). text ∷ runs_before run.found.enough n text) w.if-self-eq0.true ∙ ap (λ (b : Bool). text ∷ runs_before b 0 text) w.if-not-self.false
      | then-not-self-via-else-not-self+else-self-eq0+then-self-lt-ENOUGH w ↦
          let none = run_before run.left text run.front.now (omega arith) run.before false (too_short run.front.now (omega (arith, w.if-self-lt-ENOUGH.true))) in
          ap (λ (z : List (List ℕ)). text ∷ z) (ap (λ (b : Bool). runs_before b run.left text) w.if-not-self.false ∙ none)
    ]

pub find_text-found-requires : goal.find_text-found-requires
find_text-found-requires c =
    let run = c.args.self.now in
    let f = run.found in
    let line = f.line.now in
    let n = f.after + run_words f.size (last_first is_joint f.before.now) in
    let all = before_words-begins (parts_at f.cut) (f.after + run_words f.size (last_first (parts_at f.cut) f.before.now)) line in
    let within : length run.front.now ≤ length line = omega (arith, ap length run.place, ap length all.1, length-append (before_words (parts_at f.cut) (f.after + run_words f.size (last_first (parts_at f.cut) f.before.now)) line) all.0) in
    record {
      known = λ less.
          let same : f.start ≡ c.min-start.result = omega (arith, c.min-start.ensures, less) in
          let joints = f.parted (omega (arith, same, less, within)) in
          let place : run.front.now ≡ before_words is_joint n line = run.place ∙ ap (λ k. before_words (parts_at k) (f.after + run_words f.size (last_first (parts_at k) f.before.now)) line) joints in
          subst (λ (s : ℕ). IsKnown run.front.now s) same (front_known line run.front.now f.start n f.starts (omega (arith, f.taken c.if-not-self.false)) place) less;
    }

pub of-requires-clause-room : goal.of-requires-clause-room
of-requires-clause-room c =
    let run = c.args.self.now in
    omega (arith, before_digits-shorter run.text.now run.front.now run.before, c.requires.room)

pub returns-then-not-found-clause-none : goal.returns-then-not-found-clause-none
returns-then-not-found-clause-none c =
    let run = c.args.self.now in
    let text = run.text.now in
    let front = run.front.now in
    let few : are_enough (text_digits front) ≡ false = ap are_enough (sym c.find_text-found.ensures.digits) ∙ sym c.find_text-found.result.counted ∙ c.if-not-found.true in
    let none = run_before run.left text front (omega arith) run.before false few in
    λ _. ap (λ (z : List (List ℕ)). text ∷ z) (ap (λ (b : Bool). runs_before b run.left text) c.if-not-self.false ∙ none)

pub returns-clause-some : goal.returns-clause-some
returns-clause-some c =
    let run = c.args.self.now in
    let text = run.text.now in
    let front = run.front.now in
    let found = c.find_text-found.result in
    let r = c.of.result in
    let many : are_enough (text_digits front) ≡ true = ap are_enough (sym c.find_text-found.ensures.digits) ∙ sym found.counted ∙ c.if-not-found.false in
    let next = run_before run.left text front (omega arith) run.before true many in
    ap (λ (z : List (List ℕ)). text ∷ z) (ap (λ (b : Bool). runs_before b run.left text) c.if-not-self.false ∙ next)
    ∙ sym (ap (λ (z : List ℕ). text ∷ z ∷ runs_before r.found.enough r.left z) c.of.ensures.text
    ∙ ap (λ (b : Bool). text ∷ front ∷ runs_before b r.left front) (c.of.ensures.enough ∙ c.if-not-found.false)
    ∙ ap (λ (n : ℕ). text ∷ front ∷ runs_before true n front) c.of.ensures.left)

pub returns-clause-short : goal.returns-clause-short
returns-clause-short c =
    let run = c.args.self.now in
    omega (arith, ap length c.of.ensures.text, before_digits-shorter run.text.now run.front.now run.before)
