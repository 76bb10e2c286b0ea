use Rattle.std.proofs.Common.{ℕ, ◌+◌, ◌-◌, ◌≤◌, arith}
use Rattle.std.specs.Prelude.{◌↔◌, IsTrue, nat_le}
use Rattle.std.proofs.lemmas.Bool.{le-leb, leb-true}
use Rattle.etcs_bits.proofs.few.Few.has_room.Goals as goal

room : (len more : ℕ) → len ≤ 56 → IsTrue (nat_le more (56 - len)) ↔ (len + more ≤ 56)
room len more h = ((λ t. let le = leb-true more (56 - len) t in omega (arith, le, h)), (λ le. le-leb more (56 - len) (omega (arith, le))))

pub returns : goal.returns
returns c =
    let r = room c.len.result c.args.more c.len.ensures.most in
    ((λ t. let h = r.0 t in omega (arith, h, c.len.ensures.is)), (λ h. r.1 (omega (arith, h, c.len.ensures.is))))
