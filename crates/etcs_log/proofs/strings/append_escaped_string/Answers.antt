use Rattle.std.proofs.Common.{IsUtf8, List, ℕ, ◌++◌, ap, subst, sym, ◌∙◌}
use Rattle.json.specs.Print.{quoted}
use Rattle.json.proofs.Printed.Utf8.{IsUtf8-quoted}
use Rattle.etcs_log.proofs.strings.append_escaped_string.Goals as goal

pub unreachable-requires : goal.unreachable-requires
unreachable-requires c =
    let is = c.deref.ensures.value ∙ c.in_ok-append_string.ensures ∙ ap (λ (z : List ℕ). z ++ quoted c.args.text.now) c.new-string.ensures.items in
    c.in_default.ensures.cases.0 (subst IsUtf8 (sym is) (IsUtf8-quoted c.args.text.now c.utf8.text))
