use Rattle.std.proofs.Common.{◌≡◌, ◌-◌, ◌+◌, ◌<◌, ◌≤◌, ◌++◌, inl, inr, ℕ, Bool, Option, List, [], false, drop, length, take, ap, refl, rules, subst, sym, ◌∙◌, arith}
use Rattle.std.proofs.lemmas.List.{drop-drop, length-drop, take_rest}
use Rattle.std.proofs.lemmas.Result.{err_from_is_err_and}
use Rattle.etcs_reasons.specs.declared.page.TheConstants.{HEAD}
use Rattle.etcs_text.proofs.ItemLengths.{open_short}
use Rattle.etcs_text.specs.declared.account.Part.{Part}
use Rattle.etcs_text.specs.declared.account.End.TheVariants.{Open}
use Rattle.etcs_explain.specs.declared.task.Task.{Task}
use Rattle.etcs_explain.specs.declared.seen.Seen.{Seen}
use Rattle.etcs_explain.specs.Inputs.{Token, placed}
use Rattle.etcs_text.specs.declared.entry.Kind.{Kind}
use Rattle.etcs_explain.specs.Kinds.{kind_of}
use Rattle.etcs_explain.specs.Cuts.{AreFew, awaited}
use Rattle.etcs_explain.specs.Stands.{AddsOne, AreReady, Explains, ExplainsSome, Ready}
use Rattle.etcs_explain.proofs.Awaiting.{open_few}
use Rattle.etcs_explain.proofs.Parting.{explains_none, first_some, items_further}
use Rattle.etcs_explain.proofs.explainer.Explainer.items.Goals as goal
use Rattle.etcs_explain.proofs.explainer.Explainer.items.Goals.{else-not-is_last-via-then-not-is_last+else-rest-needed, else-not-is_last-via-else-not-is_last, else-not-is_last-2-via-then-not-is_last-2+else-waits, else-not-is_last-2-via-else-not-is_last-2}

pub loop-at-init : goal.loop-at-init
loop-at-init c = (search rules, refl, (λ last before. before), (λ next ready. (explains_none HEAD.now c.args.self.now.task c.args.self.now.seen c.args.page.now _, ready)), (λ fault before. before))

pub returns-in_err-account-clause-err : goal.returns-in_err-account-clause-err
returns-in_err-account-clause-err c =
    let p = err_from_is_err_and c.from_residual.result c.from_residual.ensures.1 in
    let l = c.loop-at in
    let a = c.args.self.now in
    rw p.1 (λ next ready. first_some HEAD.now a.task a.seen l.self.seen c.args.page.now l.page l.at c.args.lines.now c.args.bytes.now next (l.invariant.3 next ready).0)

pub returns-in_err-at-clause-err : goal.returns-in_err-at-clause-err
returns-in_err-at-clause-err c =
    let p = err_from_is_err_and c.from_residual-in_err-at.result c.from_residual-in_err-at.ensures.1 in
    let l = c.loop-at in
    let a = c.args.self.now in
    let text = c.args.page.now in
    rw p.1 (λ next ready.
    let some = first_some HEAD.now a.task a.seen l.self.seen text l.page l.at c.args.lines.now c.args.bytes.now next (l.invariant.3 next ready).0 in
    subst (λ (z : List ℕ). ExplainsSome HEAD.now a.task a.seen text (placed c.args.lines.now c.args.bytes.now) next z) (sym c.in_err-at.ensures.err) some)

-- one item was explained of what is left
abbrev AddsHere : Kind → Task → Seen → Seen → List ℕ → List ℕ → ℕ → List ℕ → List ℕ → Type 0
AddsHere kind task seen seen' text text' n lines bytes = (last : Bool) (next : List Token) → AreReady last task lines bytes next → (last ≡ false → awaited kind bytes ≤ length bytes) → AddsOne HEAD.now task seen seen' (placed (take n lines) (take n bytes)) (placed (drop n lines) (drop n bytes) ++ next) [] text text' × AreReady last task (drop n lines) (drop n bytes) next

ready_further : (last : Bool) (task : Task) (lines bytes : List ℕ) (m n : ℕ) (next : List Token) → AreReady last task (drop n (drop m lines)) (drop n (drop m bytes)) next → AreReady last task (drop (m + n) lines) (drop (m + n) bytes) next
ready_further last task lines bytes m n next h = λ hex. subst (λ (z : List ℕ). Ready last task.kind z (drop (m + n) bytes) next) (drop-drop n m lines) (subst (λ (z : List ℕ). Ready last task.kind (drop n (drop m lines)) z next) (drop-drop n m bytes) (h hex))

-- as many are there as the item has
here : (kind : Kind) (rest' rest : List ℕ) (n : ℕ) → rest' ≡ rest → awaited kind rest' ≤ n → n ≤ length rest' → awaited kind rest ≤ length rest
here kind rest' rest n e least le = subst (λ (z : List ℕ). awaited kind z ≤ length z) e (omega (arith, least, le))

pub loop-at-preserved : goal.loop-at-preserved
loop-at-preserved c =
    let l = c.loop-at in
    let task = c.args.self.now.task in
    let seen = c.args.self.now.seen in
    let kind = c.kind_of-kind.result in
    let n = c.in_ok-at.field-0 in
    let e = c.in_ok-at.ensures in
    let lines = c.args.lines.now in
    let bytes = c.args.bytes.now in
    let seen' = c.item.new.self.seen in
    let text' = c.item.new.page in
    let rest = take_rest bytes l.at in
    let adds1 = subst (λ (z : List ℕ). AddsHere kind l.self.task l.self.seen seen' l.page text' n z (take (length bytes - l.at) (drop l.at bytes))) (take_rest lines l.at) e.ok in
    let adds2 = subst (λ (z : List ℕ). AddsHere kind l.self.task l.self.seen seen' l.page text' n (drop l.at lines) z) rest adds1 in
    let adds = subst (λ (z : Task). AddsHere kind z l.self.seen seen' l.page text' n (drop l.at lines) (drop l.at bytes)) l.invariant.1 adds2 in
    let other : c.args.is_last ≡ false → (part : Part) → c.in_ok-account.account.end ≡ Open part → ⊥ = λ last. elim c.else-not-is_last-2.branch [ else-not-is_last-2-via-then-not-is_last-2+else-waits w ↦ w.waits.ensures.other w.if-waits.false | else-not-is_last-2-via-else-not-is_last-2 w ↦ let x = w.if-not-is_last-2.false in absurd cc ] in
    let whole : c.args.is_last ≡ false → awaited kind (drop l.at bytes) ≤ length (drop l.at bytes) = elim c.else-not-is_last.branch [ else-not-is_last-via-then-not-is_last+else-rest-needed w ↦ λ last. here kind (take (length bytes - l.at) (drop l.at bytes)) (drop l.at bytes) w.needed.result rest w.needed.ensures.least (omega (arith, w.if-rest-needed.false)) | else-not-is_last-via-else-not-is_last w ↦ λ last. let x = w.if-not-is_last.false in absurd cc ] in
    let one : (next : List Token) → AreReady c.args.is_last task lines bytes next → Explains HEAD.now task seen c.args.page.now (placed (take (l.at + n) lines) (take (l.at + n) bytes)) (placed (drop (l.at + n) lines) (drop (l.at + n) bytes) ++ next) seen' text' × AreReady c.args.is_last task (drop (l.at + n) lines) (drop (l.at + n) bytes) next = λ next ready.
    let (explains, left) = l.invariant.3 next ready in
    let (added, after) = adds c.args.is_last next left whole in
    (items_further HEAD.now task seen l.self.seen seen' c.args.page.now l.page text' l.at n lines bytes next explains added, ready_further c.args.is_last task lines bytes l.at n next after) in (
      omega (arith, l.invariant.0, e.most, ap length rest, length-drop l.at bytes),
      e.task ∙ l.invariant.1,
      (λ last before. e.uncut (other last) (l.invariant.2 last before)),
      one,
      (λ fault before. e.kept fault (l.invariant.4 fault before)),
    )

pub returns-then-waits-clause-short : goal.returns-then-waits-clause-short
returns-then-waits-clause-short c =
    let l = c.loop-at in
    let bytes = c.args.bytes.now in
    let rest = take (length bytes - l.at) (drop l.at bytes) in
    let few : length rest < 1023 = elim (c.waits.ensures.waits c.if-waits.true) [ inl o ↦ let a = rw o.1 at c.in_ok-account.ensures in open_short c.kind_of-kind.result rest a.1.viable a.1.open_end | inr few ↦ few ] in
    omega (arith, few, l.invariant.0, ap length (take_rest bytes l.at), length-drop l.at bytes)

few_here : (task' task : Task) (rest' rest : List ℕ) → task' ≡ task → rest' ≡ rest → AreFew task'.kind rest' → AreFew task.kind rest
few_here task' task rest' rest te e few = subst (λ (z : Task). AreFew z.kind rest) te (subst (λ (z : List ℕ). AreFew task'.kind z) e few)

-- of their kind they are few
few_of : (asked : Option Kind) (kind : Kind) (rest : List ℕ) → kind ≡ kind_of asked rest → length rest < awaited kind rest → AreFew asked rest
few_of asked kind rest is few = subst (λ (z : Kind). length rest < awaited z rest) is few

pub returns-then-rest-needed-clause-held : goal.returns-then-rest-needed-clause-held
returns-then-rest-needed-clause-held c last hex =
    let l = c.loop-at in
    let bytes = c.args.bytes.now in
    let rest = take (length bytes - l.at) (drop l.at bytes) in
    let from = ap (λ (z : Task). z.from) l.invariant.1 ∙ hex in
    let few : length rest < awaited c.kind_of-kind.result rest = omega (arith, c.if-rest-needed.true, c.needed.ensures.hex from) in
    few_here l.self.task c.args.self.now.task rest (drop l.at bytes) l.invariant.1 (take_rest bytes l.at) (few_of l.self.task.kind c.kind_of-kind.result rest c.kind_of-kind.ensures few)

pub returns-then-waits-clause-held : goal.returns-then-waits-clause-held
returns-then-waits-clause-held c last hex =
    let l = c.loop-at in
    let bytes = c.args.bytes.now in
    let rest = take (length bytes - l.at) (drop l.at bytes) in
    let o = c.waits.ensures.hex (ap (λ (z : Task). z.from) l.invariant.1 ∙ hex) c.if-waits.true in
    let a = rw o.1 at c.in_ok-account.ensures in
    few_here l.self.task c.args.self.now.task rest (drop l.at bytes) l.invariant.1 (take_rest bytes l.at) (few_of l.self.task.kind c.kind_of-kind.result rest c.kind_of-kind.ensures (open_few c.kind_of-kind.result rest (a.1.viable, a.1.open_end)))
