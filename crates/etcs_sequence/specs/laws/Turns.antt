-- What is left after each variable of a frame is what the next one wants.
use Rattle.std.proofs.Common.{◌≡◌, ℕ, Some, sym, subst, ◌∙◌, inl, inr}
use Rattle.etcs_vars.specs.Reading.{Reading}
use Rattle.etcs_tables.specs.Layouts.{Layout, ReadsIn}
use Rattle.etcs_tables.specs.Rows.{row_to}
use Rattle.etcs_tables.specs.declared.row.Way.{Way}
use Rattle.etcs_sequence.specs.Contents.{BodyIn}
use Rattle.etcs_sequence.specs.laws.Others.{kept_untyped}

-- ---- From one to the next.

pub row_body : (way : Way) (nid bits : ℕ) (row : Layout) (q : Reading) → row_to way nid ≡ Some row → BodyIn way nid bits q → ReadsIn row bits q
row_body way nid bits row q e (inl (other, f, l)) = let same : other ≡ row = (let two : Some other ≡ Some row = sym f ∙ e in cc) in subst (λ (x : Layout). ReadsIn x bits q) same l
row_body way nid bits row q e (inr (k, b)) = absurd (kept_untyped way nid row k e)
