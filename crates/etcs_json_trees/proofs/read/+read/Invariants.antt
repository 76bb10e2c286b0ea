use Rattle.std.proofs.Common.{◌≡◌, ℕ, ◌+◌, ◌*◌, ◌≤◌, length}
use Rattle.json.specs.Json.{items, members, value, parse_map}
use Rattle.serde_json.specs.Data.{Members}
use Rattle.serde_json.specs.Read.{of_items, of_members, converted}
use Rattle.serde_json.specs.View.{items_view, members_view}
use Rattle.etcs_json_trees.specs.Found.{first_items, first_members}
use Rattle.etcs_json_trees.specs.Fits.{items_weight, ItemsHaveShape}
use Rattle.etcs_json_trees.proofs.ObjectsFit.{FitsNamed, Masked}
use Rattle.etcs_json_trees.proofs.Reading.{items_before}
use Rattle.etcs_json_trees.proofs.read.+read.Given as goal

abbrev pub decreases-read : goal.decreases-read
decreases-read l = 4 * l.depth

abbrev pub decreases-read_array : goal.decreases-read_array
decreases-read_array l = 4 * l.depth + 3

abbrev pub decreases-read_items : goal.decreases-read_items
decreases-read_items l = 4 * l.depth + 2

abbrev pub decreases-read_object : goal.decreases-read_object
decreases-read_object l = 4 * l.depth + 3

abbrev pub decreases-read_members : goal.decreases-read_members
decreases-read_members l = 4 * l.depth + 2

abbrev pub decreases-read_member : goal.decreases-read_member
decreases-read_member l = 4 * l.depth + 1

abbrev pub invariant-read_items-items : goal.invariant-read_items-items
invariant-read_items-items l =
    (n : ℕ) × (length l.reader ≤ n)
    × (first_items l.depth l.initial.reader ≡ parse_map (items_before l.found.items) (converted of_items (items (value l.depth) n l.reader)))
    × (length l.reader ≤ length l.initial.reader)
    × ItemsHaveShape l.place (items_view l.found.items)
    × (items_weight (items_view l.found.items) + l.left ≡ l.room)

abbrev pub decreases-read_items-items : goal.decreases-read_items-items
decreases-read_items-items l = length l.reader

abbrev pub invariant-read_members-members : goal.invariant-read_members-members
invariant-read_members-members l =
    (n : ℕ) × (old : Members) × (length l.reader ≤ n)
    × (first_members l.depth l.initial.reader ≡ converted (λ js. of_members js old) (members (value l.depth) n l.reader))
    × (length l.reader ≤ length l.initial.reader)
    × Masked (FitsNamed l.place l.room) old (members_view l.found.entries)

abbrev pub decreases-read_members-members : goal.decreases-read_members-members
decreases-read_members-members l = length l.reader
