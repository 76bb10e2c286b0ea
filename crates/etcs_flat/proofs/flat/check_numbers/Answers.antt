use Rattle.std.proofs.Common.{◌≡◌, None}
use Rattle.std.proofs.lemmas.Result.{err_from_is_err_and}
use Rattle.std.proofs.lemmas.Slice.Zip.{Zip-more, either_empty_from_Zip}
use Rattle.etcs_vars.specs.Faults.{number_fault}
use Rattle.etcs_flat.specs.Flats.{numbers_fault}
use Rattle.etcs_flat.proofs.Checks.{none_first, some_first, fault_from, fault_end}
use Rattle.etcs_flat.proofs.flat.check_numbers.Goals as goal

pub loop-item-preserved-in-Continue-1 : goal.loop-item-preserved-in-Continue-1
loop-item-preserved-in-Continue-1 c = λ vs is.
    let i = c.loop-item.invariant vs is in
    let t = Zip-more c.loop-item.item-iterator c.next.new.self c.next.result _ c.in-Some.is c.next.ensures.steps in
    let x = fault_from i.0 i.1 t.0 t.1 i.2 in
    let same : c.in-One.var ≡ x.0 = cc in
    let fine : number_fault x.0 c.in-Some.number.now ≡ None = rw same at c.in_ok-check.ensures.ok in
    (x.1, x.3, none_first x.4 fine)

pub returns-in_err-check-clause-fault : goal.returns-in_err-check-clause-fault
returns-in_err-check-clause-fault c = λ vs is.
    let i = c.loop-item.invariant vs is in
    let t = Zip-more c.loop-item.item-iterator c.next.new.self c.next.result _ c.in-Some.is c.next.ensures.steps in
    let x = fault_from i.0 i.1 t.0 t.1 i.2 in
    let same : c.in-One.var ≡ x.0 = cc in
    let p = err_from_is_err_and c.from_residual.result c.from_residual.ensures.1 in
    rw (p.1, p.2) (some_first {a = number_fault x.0 c.in-Some.number.now} (numbers_fault x.1 _) x.4 (rw same at c.in_err-check.ensures.fault))

pub loop-item-preserved : goal.loop-item-preserved
loop-item-preserved c = λ vs is.
    let i = c.loop-item.invariant vs is in
    let t = Zip-more c.loop-item.item-iterator c.next.new.self c.next.result _ c.in-Some.is c.next.ensures.steps in
    let x = fault_from i.0 i.1 t.0 t.1 i.2 in
    absurd (c.in_default.not-One x.0 x.2)

pub returns-clause-ok : goal.returns-clause-ok
returns-clause-ok c = λ vs is.
    let i = c.loop-item.invariant vs is in
    fault_end i.0 i.1 (either_empty_from_Zip c.loop-item.item-iterator c.next.new.self c.next.result c.in-None.is c.next.ensures.steps) i.2
