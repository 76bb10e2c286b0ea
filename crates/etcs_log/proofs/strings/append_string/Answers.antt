use Rattle.std.proofs.Common.{◌≡◌}
use Rattle.etcs_log.proofs.Printed.{string_appended}
use Rattle.etcs_log.proofs.strings.append_string.Goals as goal

pub returns : goal.returns
returns c =
    let before : c.new-writer.result.before ≡ c.args.out.now.items = cc in
    string_appended c.new-writer.result c.string-written.new.self c.args.text.now c.into_inner.result.items c.args.out.now.items c.new-writer.ensures.tokens before c.into_inner.ensures.items c.string-written.result c.string-written.ensures
