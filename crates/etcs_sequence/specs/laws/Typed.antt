-- Numbers of typed packets.
use Rattle.std.proofs.Common.{◌≡◌, ℕ, ◌<◌, ◌&&◌, Some, ltb, refl}
use Rattle.std.proofs.lemmas.Bool.{and_parts, ltb-true}
use Rattle.etcs_tables.specs.declared.row.Way.TheVariants.{ToTrain}
use Rattle.etcs_tables.specs.Layouts.{Layout}
use Rattle.etcs_tables.specs.Rows.{row_to, rows_to}
use Rattle.etcs_tables.proofs.EachRow.{of_each}

-- they are neither 0 nor 255
pub typed_number : (nid : ℕ) (row : Layout) → row_to ToTrain nid ≡ Some row → (0 < nid) × (nid < 255)
typed_number nid row e =
    let both = and_parts (ltb 0 nid) (ltb nid 255) (of_each (λ n r. ltb 0 n && ltb n 255) (rows_to ToTrain) nid row refl e) in
    (ltb-true 0 nid both.0, ltb-true nid 255 both.1)
