-- The places of the fields of an item, and what `etcs_places` returns.
use Rattle.std.specs.Prelude.{◌≡◌, ℕ, ◌==◌, Bool, ◌||◌, List, [], ◌∷◌, drop, if◌then◌else◌, ◌⊎◌}
use Rattle.etcs_vars.specs.declared.var.Var.TheVariants.{FILL, OTHER_DATA, PADDING, PAD}
use Rattle.etcs_vars.specs.Reading.{Reading}
use Rattle.etcs_text.specs.declared.entry.Kind.{Kind}
use Rattle.etcs_text.specs.Pairs.{PairsRead}
use Rattle.etcs_places.specs.declared.place.Place.{Place}
use Rattle.etcs_places.specs.Items.{PairsPlaces}
use Rattle.etcs_c.specs.declared.answer.EtcsAnswer.{EtcsAnswer}
use Rattle.etcs_c.specs.declared.fields.EtcsField.{EtcsField}
use Rattle.etcs_c.specs.declared.places.EtcsPlace.{EtcsPlace}
use Rattle.etcs_c.specs.Writes.{Starves, Writes}
use Rattle.etcs_c.specs.Fields.{fields_of, var_number}
use Rattle.etcs_c.specs.Answers.{OfBits}

-- a variable's place, as C has it
abbrev pub place : Place → EtcsPlace
place p = record { packet = p.packet; entry = p.entry; inner = p.inner }

-- the first of these places; outside of packets if there is none
abbrev pub first_place : List Place → EtcsPlace
first_place [] = record { packet = 0; entry = 0; inner = 0 }
first_place (p ∷ ps) = place p

-- how many variables a field has: of a run of FILL, OTHER_DATA, PADDING or PAD one for each of its bits
abbrev pub variables_in : EtcsField → ℕ
variables_in f = if f.var == var_number FILL || f.var == var_number OTHER_DATA || f.var == var_number PADDING || f.var == var_number PAD then f.width else 1

-- the places of fields, by those of all variables: each is that of the field's first variable
abbrev pub field_places : List EtcsField → List Place → List EtcsPlace
field_places [] ps = []
field_places (f ∷ fs) ps = first_place ps ∷ field_places fs (drop (variables_in f) ps)

-- the pairs r are an item of the kind, and q are the places of its fields
abbrev pub ArePlaces : Kind → Reading → List EtcsPlace → Type 0
ArePlaces kind r q = (p : List Place) × PairsPlaces kind r p × (q ≡ field_places (fields_of r) p)

-- `etcs_places`: for an item, how many bytes it has, and the places of its fields; else as for a check, and nothing is written
abbrev pub SaysPlaces : Kind → List Bool → List EtcsPlace → List EtcsPlace → ℕ → EtcsAnswer → Type 0
SaysPlaces kind b old new s a = OfBits (PairsRead kind) b (λ r. ((q : List EtcsPlace) × ArePlaces kind r q × Writes q old new s a) ⊎ Starves old new s) (λ i x. (s ≡ 2) × (new ≡ old)) (new ≡ old) s a
