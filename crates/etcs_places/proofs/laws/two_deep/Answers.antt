use Rattle.std.proofs.Common.{◌≡◌, true, refl, inl, inr}
use Rattle.std.specs.List.{list_all}
use Rattle.etcs_tables.specs.declared.row.Way.{Way}
use Rattle.etcs_tables.specs.declared.row.Way.TheVariants.{ToTrain, ToTrack}
use Rattle.etcs_tables.specs.Rows.{rows_to, message_rows_to}
use Rattle.etcs_tables.proofs.EachRow.{of_each}
use Rattle.etcs_places.specs.Places.{repeats, TwoDeep}
use Rattle.etcs_places.proofs.laws.two_deep.Goals as goal

each_packet : (way : Way) → list_all (λ p. repeats 2 p.1) (rows_to way) ≡ true
each_packet ToTrain = refl
each_packet ToTrack = refl

each_message : (way : Way) → list_all (λ p. repeats 2 p.1) (message_rows_to way) ≡ true
each_message ToTrain = refl
each_message ToTrack = refl

two_deep : TwoDeep
two_deep way nid row (inl is) = of_each (λ n r. repeats 2 r) (rows_to way) nid row (each_packet way) is
two_deep way nid row (inr is) = of_each (λ n r. repeats 2 r) (message_rows_to way) nid row (each_message way) is

pub returns : goal.returns
returns c = two_deep
