-- Which kinds are of telegrams.
use Rattle.std.specs.Prelude.{Bool, true, false, IsTrue}
use Rattle.etcs_text.specs.declared.entry.Kind.{Kind}
use Rattle.etcs_text.specs.declared.entry.Kind.TheVariants.{Long, Short, Radio, Train}

-- items of the kind are telegrams
abbrev pub is_of_telegrams : Kind → Bool
is_of_telegrams Long = true
is_of_telegrams Short = true
is_of_telegrams Radio = false
is_of_telegrams Train = false

-- the kind is of telegrams
abbrev pub IsOfTelegrams : Kind → Type 0
IsOfTelegrams kind = IsTrue (is_of_telegrams kind)
