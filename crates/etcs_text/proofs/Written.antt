-- Pairs that are those of an item, and pairs that are those of none.
use denote.Enum.Bare.{same_true, true_same}
use Rattle.std.proofs.Common.{◌≡◌, ◌%◌, ◌<◌, Bool, false, List, [], ◌++◌, length, take, drop, refl, sym, ap, subst, ◌∙◌, arith}
use Rattle.std.specs.Bool.{Decides}
use Rattle.std.specs.Prelude.{◌&&◌}
use Rattle.std.specs.Cmp.Lexicographic.{pointwise}
use Rattle.std.specs.contracts.prelude.U64PartialEq.TheImpl as number
use Rattle.std.proofs.lemmas.Bool.{true≢false}
use Rattle.std.proofs.lemmas.Bool.Decides.{Decides-and, Decides-eqb, Decides-like}
use Rattle.std.proofs.lemmas.Slice.Eq.{slice_eq-Decides}
use Rattle.std.proofs.lemmas.List.{append-nil, take_all, take-append-drop}
use Rattle.etcs_vars.specs.contracts.var.Var.{the_type}
use Rattle.etcs_vars.specs.contracts.var.VarPartialEq.TheImpl as variable
use Rattle.etcs_vars.specs.declared.var.Var.{Var}
use Rattle.etcs_vars.specs.Reading.{Reading, Sent, spelled, readings_of, NoneYet, IsOutcome, done}
use Rattle.etcs_vars.proofs.Apart.{apart}
use Rattle.etcs_vars.proofs.Walk.{Regular}
use Rattle.etcs_text.specs.declared.entry.Kind.{Kind}
use Rattle.etcs_text.specs.Pairs.{ItemLanguage, PairsRead}
use Rattle.etcs_text.proofs.AccountOutcomes.{same_items}
use Rattle.etcs_text.proofs.ItemKinds.{kind_regular}
use Rattle.etcs_text.proofs.ItemLengths.{item_length}

item_regular : (kind : Kind) → Regular (ItemLanguage kind)
item_regular kind = record {
  agree = λ a b l m. (kind_regular kind).agree a b ((same_items kind a).0 l) ((same_items kind b).0 m);
  fit = λ a l. (kind_regular kind).fit a ((same_items kind a).0 l);
}

pub one_spelling : (kind : Kind) (p q : Reading) (beyond : List Bool) → ItemLanguage kind p → ItemLanguage kind q → spelled q ≡ spelled p ++ beyond → (p ≡ q) × (beyond ≡ [])
one_spelling kind p q beyond l m e = let regular = item_regular kind in apart p q beyond [] (regular.agree p q l m) (regular.fit p l) (regular.fit q m) (sym e ∙ sym (append-nil (spelled q)))

-- bits that are the spelling of an item begin with no other one
pub one_item : (kind : Kind) (pairs p : Reading) (b : List Bool) → b ≡ spelled pairs → IsOutcome (PairsRead kind) b (done p (length (spelled p))) → ItemLanguage kind pairs → p ≡ pairs
one_item kind pairs p b e (le, r, (r_is, l), spells) m =
    let n = length (spelled p) in
    let front : spelled p ≡ take n b = ap spelled (sym r_is) ∙ spells in
    (one_spelling kind p pairs (drop n b) l m (sym e ∙ sym (take-append-drop n b) ∙ ap (λ (t : List Bool). t ++ drop n b) (sym front))).0

pub whole_decided : (kind : Kind) (pairs p : Reading) (b : List Bool) → b ≡ spelled pairs → IsOutcome (PairsRead kind) b (done p (length (spelled p))) → (same : Bool) → Decides same (p ≡ pairs) → Decides same (ItemLanguage kind pairs)
whole_decided kind pairs p b e o same d = (λ is. subst (ItemLanguage kind) (d.0 is) o.2.1, λ m. d.1 (one_item kind pairs p b e o m))

-- nor are they the spelling of one if no front of them is
pub none_item : (kind : Kind) (pairs : Reading) (b : List Bool) → b ≡ spelled pairs → NoneYet (readings_of (PairsRead kind)) b → ItemLanguage kind pairs → ⊥
none_item kind pairs b e none m = none (length b) (omega arith) (pairs, (pairs, (refl, m)), sym e ∙ sym (take_all (length b) b (omega arith)))

pub none_decided : (kind : Kind) (pairs : Reading) (b : List Bool) → b ≡ spelled pairs → NoneYet (readings_of (PairsRead kind)) b → Decides false (ItemLanguage kind pairs)
none_decided kind pairs b e none = (λ is. absurd (true≢false (sym is)), λ m. absurd (none_item kind pairs b e none m))

-- an item has whole bytes, at most 1,023
pub long_none : (kind : Kind) (pairs : Reading) → (length (spelled pairs) % 8 ≡ 0 → 8184 < length (spelled pairs)) → ItemLanguage kind pairs → ⊥
long_none kind pairs long m =
    let (e, reads) = (same_items kind pairs).0 m in
    let whole = item_length kind e pairs reads in
    absurd (omega (arith, long whole.0, whole.1))

-- ---- `==` of lists of pairs.

var_exact : (a b : Var) → Decides (variable.ghosts.eq a b) (a ≡ b)
var_exact a b = (λ e. same_true the_type tt a b e, λ e. true_same the_type a b e)

pair_exact : (p q : Sent) → Decides (variable.ghosts.eq p.0 q.0 && number.ghosts.eq p.1 q.1) (p ≡ q)
pair_exact (a, n) (b, m) = Decides-like (variable.ghosts.eq a b && number.ghosts.eq n m) (λ h. both h.0 h.1) (λ e. (ap (λ (p : Sent). p.0) e, ap (λ (p : Sent). p.1) e)) (Decides-and (variable.ghosts.eq a b) (number.ghosts.eq n m) (var_exact a b) (Decides-eqb n m))
  where
    both : a ≡ b → n ≡ m → ◌≡◌ {A = Sent} (a, n) (b, m)
    both e f = cc

-- it says whether the first list is the second, where it is the pairs p
pub same_pairs : (same : Bool) (xs pairs p : Reading) → same ≡ pointwise (λ (x y : Sent). variable.ghosts.eq x.0 y.0 && number.ghosts.eq x.1 y.1) xs pairs → xs ≡ p → Decides same (p ≡ pairs)
same_pairs same xs pairs p e is = let d = slice_eq-Decides pair_exact xs pairs same e in (λ t. sym is ∙ d.0 t, λ h. d.1 (is ∙ h))
