-- The definitions, computed on texts, with blanks after a list.
use Rattle.std.proofs.Common.{◌≡◌, true, false, [], ◌∷◌, ◌++◌, replicate, refl}
use Rattle.std.specs.Prelude.{codes}
use Rattle.std.specs.Fmt.{digits}
use Rattle.etcs_json_trees.specs.PairTexts.{hex_text, first_pair, stuck, named_left, pairs_left}

-- after the bracket there are no pairs
pub no_pairs : pairs_left 93 (codes ",[\"Q_DIR\",1]") ≡ stuck (codes "],[\"Q_DIR\",1]") ∷ []
unfolding digits hex_text first_pair named_left
no_pairs = refl

pub two_pairs : pairs_left 44 (codes "[\"Q_DIR\",1],[\"L_PACKET\",8191]]" ++ replicate 64 32) ≡ ((codes "Q_DIR", false), 1) ∷ ((codes "L_PACKET", false), 8191) ∷ stuck (codes "]" ++ replicate 64 32) ∷ []
unfolding digits hex_text first_pair named_left
two_pairs = refl

-- too near the end of a text
pub no_room : pairs_left 44 (codes "[\"Q_DIR\",1]]") ≡ stuck (codes ",[\"Q_DIR\",1]]") ∷ []
unfolding digits hex_text first_pair named_left
no_room = refl

-- sixteen digits in quotes
pub radio_pair : pairs_left 44 (codes "[\"NID_RADIO\",\"12345678abcdef00\"]]" ++ replicate 64 32) ≡ ((codes "NID_RADIO", true), 1311768467750121216) ∷ stuck (codes "]" ++ replicate 64 32) ∷ []
unfolding digits hex_text first_pair named_left
radio_pair = refl
