use Rattle.std.proofs.Common.{◌≡◌, [], ◌∷◌, None, ap, ◌∙◌, arith}
use Rattle.json.specs.Token.{Token}
use Rattle.json.specs.Json.{value}
use Rattle.json.specs.Reads.{token_of}
use Rattle.json.proofs.Grammar.{value_is}
use Rattle.serde_json.specs.Data.{null, boolean, number, string}
use Rattle.serde_json.specs.Read.{of_json, converted}
use Rattle.serde_json.specs.View.{number_view}
use Rattle.etcs_json_trees.proofs.Outcomes.{OnErr-always}
use Rattle.etcs_json_trees.proofs.skip.begin.Goals as goal

pub returns-in_err-token-clause-err : goal.returns-in_err-token-clause-err
returns-in_err-token-clause-err c =
    let empty : c.args.reader.now ≡ [] = grind arith in
    OnErr-always c.from_residual.result (λ depth. ap (converted of_json) (ap (value depth) empty ∙ value_is depth []))

pub returns-in-String-clause-scalar : goal.returns-in-String-clause-scalar
returns-in-String-clause-scalar c =
    let first : c.args.reader.now ≡ token_of c.in_ok-token.token ∷ c.next.new.self = grind arith in
    let is : c.args.reader.now ≡ Token.string c.in-String.field-0.now ∷ c.next.new.self = grind (arith, first) in
    λ _. (string c.in-String.field-0.now, λ depth. ap (converted of_json) (ap (value depth) is ∙ value_is depth _))

pub returns-in-Bool-clause-scalar : goal.returns-in-Bool-clause-scalar
returns-in-Bool-clause-scalar c =
    let first : c.args.reader.now ≡ token_of c.in_ok-token.token ∷ c.next.new.self = grind arith in
    let is : c.args.reader.now ≡ Token.boolean c.in-Bool.field-0 ∷ c.next.new.self = grind (arith, first) in
    λ _. (boolean c.in-Bool.field-0, λ depth. ap (converted of_json) (ap (value depth) is ∙ value_is depth _))

pub returns-in-Null-clause-scalar : goal.returns-in-Null-clause-scalar
returns-in-Null-clause-scalar c =
    let first : c.args.reader.now ≡ token_of c.in_ok-token.token ∷ c.next.new.self = grind arith in
    let is : c.args.reader.now ≡ Token.null ∷ c.next.new.self = grind (arith, first) in
    λ _. (null, λ depth. ap (converted of_json) (ap (value depth) is ∙ value_is depth _))

pub returns-in-Some-clause-scalar : goal.returns-in-Some-clause-scalar
returns-in-Some-clause-scalar c =
    let first : c.args.reader.now ≡ token_of c.in_ok-token.token ∷ c.next.new.self = grind arith in
    let is : c.args.reader.now ≡ Token.number c.in-Number.text.now ∷ c.next.new.self = grind (arith, first) in
    λ _. (number (number_view c.in-Some.field-0), λ depth. ap (converted of_json) (ap (value depth) is ∙ value_is depth _) ∙ rw (← c.in-Some.ensures))

pub returns-in-None-clause-err : goal.returns-in-None-clause-err
returns-in-None-clause-err c =
    let first : c.args.reader.now ≡ token_of c.in_ok-token.token ∷ c.next.new.self = grind arith in
    let is : c.args.reader.now ≡ Token.number c.in-Number.text.now ∷ c.next.new.self = grind (arith, first) in
    λ depth. ap (converted of_json) (ap (value depth) is ∙ value_is depth _) ∙ rw (← c.in-None.ensures)

pub returns-in-EndObject-clause-err : goal.returns-in-EndObject-clause-err
returns-in-EndObject-clause-err c =
    let first : c.args.reader.now ≡ token_of c.in_ok-token.token ∷ c.next.new.self = grind arith in
    λ depth. let none : value depth c.args.reader.now ≡ None = rw (value_is depth c.args.reader.now, first) (grind arith) in ap (converted of_json) none
