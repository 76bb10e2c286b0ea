use Rattle.std.proofs.Common.{◌≡◌, ◌+◌, ◌*◌, ◌/◌, ◌++◌, ℕ, length, drop, refl, sym, ap, ◌∙◌, arith}
use Rattle.std.proofs.lemmas.List.{length-append}
use Rattle.serde_json.specs.View.{view}
use Rattle.etcs_bits.specs.Bits.{num}
use Rattle.etcs_vars.specs.Reading.{spelled}
use Rattle.etcs_messages.specs.Messages.{MessageValue}
use Rattle.etcs_text.specs.Entries.{of_message}
use Rattle.etcs_json.specs.Puts.{rest_of}
use Rattle.etcs_json.proofs.ItemTrees.{message_only, message_place, message_whole, zeros_long}
use Rattle.etcs_json.proofs.LooseItems.{message_stored}
use Rattle.etcs_json.proofs.OneItems.{parts_same}
use Rattle.etcs_json.proofs.PutItems.{framed}
use Rattle.etcs_json.proofs.trees.put_message_tree.Goals as goal

pub returns-in_err-nid-clause-invalid : goal.returns-in_err-nid-clause-invalid
returns-in_err-nid-clause-invalid c = λ invalid.
    message_only c.args.way (view c.args.value.now) (λ m r loose tree. c.put_rest_tree.ensures.invalid (grind arith) m (message_place c.args.way m c.put.new.self loose (zeros_long c.args.out.now c.put.new.self c.requires c.in_ok-put.ensures.ok)) tree)

pub put_length-requires : goal.put_length-requires
put_length-requires c =
    let (m, parts, number, tree, bits) = c.in_ok-nid.ensures.ok in
    omega (arith, ap length bits, length-append c.put.new.self (spelled (rest_of c.args.way m)), zeros_long c.args.out.now c.put.new.self c.requires c.in_ok-put.ensures.ok)

pub returns-in-Some-clause-ok : goal.returns-in-Some-clause-ok
returns-in-Some-clause-ok c =
    let (m, parts, number, tree, bits) = c.in_ok-nid.ensures.ok in
    let two = c.put_rest_tree.new.out in
    let (whole, over) = c.in-Some.ensures.some in
    let all = framed (rest_of c.args.way m) c.args.out.now c.put.new.self two c.requires c.in_ok-put.ensures.ok bits in
    (of_message c.args.way m, message_stored c.args.way m (view c.args.value.now) two c.put_length.new.out parts tree all whole (over ∙ ap (λ (n : ℕ). num 18 (n * 1024 + length two / 8) ++ drop 18 two) (sym number)))

pub returns-in-None-clause-invalid : goal.returns-in-None-clause-invalid
returns-in-None-clause-invalid c = λ invalid.
    message_only c.args.way (view c.args.value.now)
    (λ m r loose tree.
    (let (n, parts, number, other, bits) = c.in_ok-nid.ensures.ok in
    let two = c.put_rest_tree.new.out in
    let place = message_place c.args.way m c.put.new.self loose (zeros_long c.args.out.now c.put.new.self c.requires c.in_ok-put.ensures.ok) in
    let same : n ≡ m = parts_same c.args.way n m (view c.args.value.now) parts place.0 other tree in
    let all = framed (rest_of c.args.way n) c.args.out.now c.put.new.self two c.requires c.in_ok-put.ensures.ok bits in
    c.in-None.ensures.none refl (message_whole c.args.way m two loose (all ∙ ap (λ (k : MessageValue). num 18 0 ++ spelled (rest_of c.args.way k)) same))))
