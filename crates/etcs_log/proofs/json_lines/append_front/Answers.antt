use Rattle.std.proofs.Common.{◌≡◌, ◌++◌, ◌∙◌, List, ℕ, OnOk, sym, subst}
use Rattle.std.proofs.lemmas.Str.{utf8_lossy-IsUtf8}
use Rattle.serde_json.specs.Data.{string}
use Rattle.serde_json.specs.Written.{compact_text}
use Rattle.etcs_log.specs.Visible.{visible}
use Rattle.etcs_log.proofs.json_lines.append_front.Goals as goal

pub returns-in-Ok : goal.returns-in-Ok
returns-in-Ok c =
    let valid = c.in-Ok.ensures.cases in
    let same = valid.0 ∙ sym (utf8_lossy-IsUtf8 c.args.front.now valid.1) in
    subst (λ (z : List ℕ). OnOk c.append_visible_string.result (c.append_visible_string.new.out.items ≡ c.args.out.now.items ++ visible (compact_text (string z)))) same c.append_visible_string.ensures
