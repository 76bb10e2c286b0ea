use Rattle.std.proofs.Common.{arith}
use Rattle.etcs_json_trees.proofs.Parts.{all_alike, last_alike}
use Rattle.etcs_json_trees.proofs.written.text.are_same.Goals as goal

pub returns-then-same_four : goal.returns-then-same_four
returns-then-same_four g c = λ t.
    (let a = c.args.first.now in
    let b = c.args.second.now in
    all_alike g.row.N a b (omega arith) (omega arith) (last_alike 4 4 g.row.N a b (omega arith) (omega arith) (c.same_four.ensures.0 c.if-same_four.true) (c.same_four-then-same_four.ensures.0 t)))

pub returns-then-are_same_words : goal.returns-then-are_same_words
returns-then-are_same_words g c = λ t.
    (let a = c.args.first.now in
    let b = c.args.second.now in
    let (n, most, same) = c.are_same_words.ensures c.if-are_same_words.true in
    all_alike g.row.N a b (omega arith) (omega arith) (last_alike 8 n g.row.N a b (omega arith) most same (c.same_eight.ensures.0 t)))
