-- How often a variable is refused, by cause.
use Rattle.std.specs.Prelude.{ℕ, ◌+◌, ◌-◌, ◌^◌, ◌==◌, min, List, ◌++◌, if◌then◌else◌, codes}
use Rattle.std.specs.Fmt.{decimal}
use Rattle.etcs_vars.specs.Vars.{name}
use Rattle.etcs_rows.specs.declared.cause.Cause.{Cause}
use Rattle.etcs_rows.specs.declared.cause.Cause.TheVariants.{Spare, Unfit}
use Rattle.etcs_log.specs.declared.refusals.RefusalCount.{RefusalCount}

-- one more, up to 2^64 - 1
abbrev pub next : ℕ → ℕ
next n = min (n + 1) (2 ^ 64 - 1)

-- a refusal more, for this cause
abbrev pub one_refused : Cause → RefusalCount → RefusalCount
one_refused Spare c = record c { spare = next c.spare }
one_refused (Unfit n) c = record c { unfit = next c.unfit }

-- how many have which cause
unfoldable pub causes_text : ℕ → ℕ → List ℕ
causes_text unfit spare =
    if spare == 0 then codes " (" ++ decimal unfit ++ codes " unfit)" else
    (if unfit == 0 then codes " (" ++ decimal spare ++ codes " spare)" else codes " (" ++ decimal unfit ++ codes " unfit, " ++ decimal spare ++ codes " spare)")

-- how often the variable is refused
unfoldable pub refused_text : RefusalCount → List ℕ
refused_text c = codes "refused " ++ name c.var ++ codes " " ++ decimal (min (c.unfit + c.spare) (2 ^ 64 - 1)) ++ causes_text c.unfit c.spare
