use Rattle.std.proofs.Common.{◌≡◌, ℕ, ◌+◌, ◌*◌, ◌≤◌, length}
use Rattle.json.specs.Json.{items, members, value, parse_map}
use Rattle.serde_json.specs.Data.{Items, Members}
use Rattle.serde_json.specs.Read.{of_items, of_members, converted}
use Rattle.etcs_json_trees.proofs.skip.+skip.Given as goal

abbrev pub decreases-skip : goal.decreases-skip
decreases-skip l = 2 * l.depth

abbrev pub decreases-skip_items : goal.decreases-skip_items
decreases-skip_items l = 2 * l.depth + 1

abbrev pub decreases-skip_members : goal.decreases-skip_members
decreases-skip_members l = 2 * l.depth + 1

abbrev pub invariant-skip_items-items : goal.invariant-skip_items-items
invariant-skip_items-items l =
    ((n : ℕ) → length l.initial.reader ≤ n → (m : ℕ) × (f : Items → Items) × (length l.reader ≤ m)
    × (converted of_items (items (value l.depth) n l.initial.reader) ≡ parse_map f (converted of_items (items (value l.depth) m l.reader))))
    × (length l.reader ≤ length l.initial.reader)

abbrev pub decreases-skip_items-items : goal.decreases-skip_items-items
decreases-skip_items-items l = length l.reader

abbrev pub invariant-skip_members-members : goal.invariant-skip_members-members
invariant-skip_members-members l =
    ((n : ℕ) (found : Members) → length l.initial.reader ≤ n → (m : ℕ) × (old : Members) × (length l.reader ≤ m)
    × (converted (λ js. of_members js found) (members (value l.depth) n l.initial.reader) ≡ converted (λ js. of_members js old) (members (value l.depth) m l.reader)))
    × (length l.reader ≤ length l.initial.reader)

abbrev pub decreases-skip_members-members : goal.decreases-skip_members-members
decreases-skip_members-members l = length l.reader
