-- Lemmas about specs/PairSinks.antt.
use Rattle.std.proofs.Common.{◌≡◌, ℕ, ◌-◌, ◌≤◌, Bool, true, List, [], ◌∷◌, ◌++◌, drop, flat_map, get_or, length, sym, take, ap, ◌∙◌, append-nil, append_assoc, arith}
use Rattle.std.proofs.lemmas.List.{take_all}
use Rattle.serde_json.specs.Written.{comma_if, compact_text}
use Rattle.etcs_vars.specs.Reading.{Reading, Sent}
use Rattle.etcs_packet_text.specs.PairSinks.{later_pair, with_pairs}
pub use Rattle.etcs_packet_text.specs.laws.PairSinks.{list_text}
use Rattle.etcs_packet_text.specs.Trees.{pair_tree}

-- pairs after another
later_pairs : (old : List ℕ) (r : Reading) → old ++ flat_map later_pair r ≡ (with_pairs (old, true) r).0
later_pairs old [] = append-nil old
later_pairs old (x ∷ r) = sym (append_assoc old (later_pair x) (flat_map later_pair r)) ∙ later_pairs (old ++ later_pair x) r

-- a pair, and others after it
pub first_pairs : (old one new : List ℕ) (later : Bool) (x : Sent) (r : Reading) → one ≡ old ++ (comma_if later ++ compact_text (pair_tree x)) → new ≡ one ++ flat_map later_pair r → new ≡ (with_pairs (old, later) (x ∷ r)).0
first_pairs old one new later x r e h = h ∙ ap (λ (z : List ℕ). z ++ flat_map later_pair r) e ∙ later_pairs (old ++ (comma_if later ++ compact_text (pair_tree x))) r

-- of a list that has one
pub first_of_pairs : (old one new : List ℕ) (later : Bool) (sent : Reading) (d : Sent) → 1 ≤ length sent → one ≡ old ++ (comma_if later ++ compact_text (pair_tree (get_or sent 0 d))) → new ≡ one ++ flat_map later_pair (take (length sent - 1) (drop 1 sent)) → new ≡ (with_pairs (old, later) sent).0
first_of_pairs old one new later [] d some e h = absurd (omega (arith, some))
first_of_pairs old one new later (x ∷ r) d some e h =
    first_pairs old one new later x r e (h ∙ ap (λ (z : Reading). one ++ flat_map later_pair z) (take_all (length (x ∷ r) - 1) r (omega arith)))
