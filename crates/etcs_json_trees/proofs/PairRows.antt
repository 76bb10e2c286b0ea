-- The text of a list of pairs that were all taken.
use Rattle.std.proofs.Common.{◌≡◌, ℕ, true, inl, inr, List, [], ◌∷◌, ◌++◌, get_or, drop, map, sym, ap, ◌∙◌, arith, append_assoc}
use Rattle.serde_json.specs.Written.{compact_text}
use Rattle.etcs_vars.specs.Reading.{Reading}
use Rattle.etcs_bodies.specs.Taking.{Named, named, named_as, ahead}
use Rattle.etcs_packet_text.specs.Trees.{pairs_tree}
use Rattle.etcs_json_trees.specs.PairTexts.{pair_text, listed_text, pairs_text, pairs_left, IsOpened}
use Rattle.etcs_json_trees.proofs.PairReading.{listed_up_to}
use Rattle.etcs_json_trees.proofs.PairTrees.{pairs_are}

in_brackets : (r : Reading) (rest : List ℕ) → 91 ∷ (pairs_text (map named_as r) ++ 93 ∷ rest) ≡ compact_text (pairs_tree r) ++ rest
in_brackets r rest =
    ap (λ (z : List ℕ). 91 ∷ z) (sym (append_assoc (pairs_text (map named_as r)) (93 ∷ []) rest))
    ∙ ap (λ (z : List ℕ). z ++ rest) (pairs_are r)

parts : (a b : ℕ) (s t : List ℕ) → a ∷ s ≡ b ∷ t → (a ≡ b) × (s ≡ t)
parts a b s t e = (ap (λ (z : List ℕ). get_or z 0 0) e, ap (drop 1) e)

-- after the bracket or comma in front the pairs are those of the list
opened_pairs : (text rest : List ℕ) (after : ℕ) (left : List ℕ) (ps : List Named) → IsOpened text after left → after ∷ left ≡ listed_text true ps ++ 93 ∷ rest → text ≡ 91 ∷ (pairs_text ps ++ 93 ∷ rest)
opened_pairs text rest after left [] (inl (a, t)) e = t ∙ ap (λ (z : List ℕ). 91 ∷ 93 ∷ z) (parts after 93 left rest e).1
opened_pairs text rest after left (p ∷ ps) (inl (a, t)) e = absurd (omega (arith, a, (parts after 44 left ((pair_text p ++ listed_text true ps) ++ 93 ∷ rest) e).0))
opened_pairs text rest after left [] (inr (a, t)) e = absurd (omega (arith, a, (parts after 93 left rest e).0))
opened_pairs text rest after left (p ∷ ps) (inr (a, t)) e = t ∙ ap (λ (z : List ℕ). 91 ∷ z) (parts after 44 left ((pair_text p ++ listed_text true ps) ++ 93 ∷ rest) e).1

-- if the pairs of r were taken of a list and then nothing but what is after it is left, the list is that of r
pub row_text : (text rest : List ℕ) (after : ℕ) (left : List ℕ) (r : Reading) → IsOpened text after left → named (pairs_left after left) ≡ ahead r (named (pairs_left 93 rest)) → text ≡ compact_text (pairs_tree r) ++ rest
row_text text rest after left r opened e =
    opened_pairs text rest after left (map named_as r) opened (listed_up_to (after ∷ left) rest r e)
    ∙ in_brackets r rest
