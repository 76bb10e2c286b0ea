use Rattle.std.proofs.Common.{arith}
use Rattle.std.proofs.Math.Nat.{pow-le-pow_right}
use Rattle.etcs_json_trees.proofs.written.pair_numbers.most_digits.Goals as goal

pub returns-in-0-to-3-clause-most : goal.returns-in-0-to-3-clause-most
returns-in-0-to-3-clause-most c = let p = pow-le-pow_right {n = 2} (omega arith) {i = c.args.width} {j = 3} (omega arith) in omega (arith, p)

pub returns-in-4-to-6-clause-most : goal.returns-in-4-to-6-clause-most
returns-in-4-to-6-clause-most c = let p = pow-le-pow_right {n = 2} (omega arith) {i = c.args.width} {j = 6} (omega arith) in omega (arith, p)

pub returns-in-7-to-9-clause-most : goal.returns-in-7-to-9-clause-most
returns-in-7-to-9-clause-most c = let p = pow-le-pow_right {n = 2} (omega arith) {i = c.args.width} {j = 9} (omega arith) in omega (arith, p)

pub returns-in-10-to-13-clause-most : goal.returns-in-10-to-13-clause-most
returns-in-10-to-13-clause-most c = let p = pow-le-pow_right {n = 2} (omega arith) {i = c.args.width} {j = 13} (omega arith) in omega (arith, p)

pub returns-in-17-to-19-clause-most : goal.returns-in-17-to-19-clause-most
returns-in-17-to-19-clause-most c = let p = pow-le-pow_right {n = 2} (omega arith) {i = c.args.width} {j = 19} (omega arith) in omega (arith, p)

pub returns-in-20-to-26-clause-most : goal.returns-in-20-to-26-clause-most
returns-in-20-to-26-clause-most c = let p = pow-le-pow_right {n = 2} (omega arith) {i = c.args.width} {j = 26} (omega arith) in omega (arith, p)

pub returns-in_default-clause-most : goal.returns-in_default-clause-most
returns-in_default-clause-most c = let p = pow-le-pow_right {n = 2} (omega arith) {i = c.args.width} {j = 33} (omega arith) in omega (arith, p)
