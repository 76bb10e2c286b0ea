-- The head and the body of the numbers of a reading.
use Rattle.std.proofs.Common.{◌≡◌, ℕ, List, sym, subst, ◌∙◌}
use Rattle.etcs_tables.specs.declared.row.Way.TheVariants.{ToTrain}
use Rattle.etcs_messages.specs.Kinds as kinds
use Rattle.etcs_radio.specs.declared.body.Body.{Body}
use Rattle.etcs_radio.specs.Bodies.{IsBody, IsBodyNumbers, IsHeadNumbers, ReadsBack, nid_of_body, body_by}
use Rattle.etcs_radio.specs.laws.Heads.{head_fields}
use Rattle.etcs_radio.specs.laws.Bodies.{body_made, one_body}

pub head_numbers : (f : List ℕ) → kinds.IsHeadNumbers ToTrain f → IsHeadNumbers f
head_numbers f (r, reads, nums) = subst IsHeadNumbers nums (head_fields r reads).fine

-- no other body is one of these numbers
pub body_is : (nid : ℕ) (g : List ℕ) (b : Body) → IsBodyNumbers nid g → nid_of_body b ≡ nid → IsBody b → ReadsBack nid g b → b ≡ body_by nid g
body_is nid g b h e own back =
    let (row, r, typed, reads, n) = h in
    let m = body_made nid g h in
    one_body b (body_by nid g) own m.body (e ∙ sym m.number) (back row r typed reads n ∙ sym (m.back row r typed reads n))
