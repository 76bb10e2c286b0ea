use Rattle.std.proofs.Common.{◌/◌, ◌%◌, ◌^◌, ◌<◌, arith}
use Rattle.etcs_vars.proofs.BitPages as page
use Rattle.etcs_vars.proofs.bit_page.put_after.Goals as goal

pub overflow_add-joined : goal.overflow_add-joined
overflow_add-joined c =
    let small : c.from.result < 2 ^ 8 = omega (arith, c.from.ensures, c.type_inv.bytes (c.args.len / 8)) in
    let a = page.after c.from.result (c.args.len % 8) c.args.width c.args.number small (omega arith) c.requires.width c.requires.fits in
    omega (arith, a.before, a.word)

pub returns : goal.returns
returns c =
    let small : c.from.result < 2 ^ 8 = omega (arith, c.from.ensures, c.type_inv.bytes (c.args.len / 8)) in
    page.put_after c.args.bytes.now c.write_front.new.bytes c.args.len c.args.width c.args.number c.from.result c.wrapping_shl-word.result c.from.ensures small c.requires.width c.requires.fits c.requires.room c.wrapping_shl-word.ensures c.write_front.ensures
