use Rattle.std.proofs.Common.{◌∙◌, ap, inl, inr, refl, sym}
use Rattle.std.proofs.lemmas.Bool.{true≢false}
use Rattle.etcs_c.specs.Fields.{fields_of}
use Rattle.etcs_c.proofs.Equality.{same_fields}
use Rattle.etcs_c.proofs.built.build.Goals as goal

pub returns-then-eq : goal.returns-then-eq
returns-then-eq c =
    let own = same_fields c.eq.result c.as_slice-in-Ok.result.now c.args.fields.now (fields_of c.args.account.now.fields.items) c.eq.ensures (c.as_slice-in-Ok.ensures.value ∙ c.in-Ok.ensures ∙ ap fields_of c.as_slice.ensures.value) in
    inl (own.0 c.if-eq.true, c.write_out.ensures.writes)

pub returns-in-Ok : goal.returns-in-Ok
returns-in-Ok c =
    let own = same_fields c.eq.result c.as_slice-in-Ok.result.now c.args.fields.now (fields_of c.args.account.now.fields.items) c.eq.ensures (c.as_slice-in-Ok.ensures.value ∙ c.in-Ok.ensures ∙ ap fields_of c.as_slice.ensures.value) in
    inr (inl (λ is. absurd (true≢false (sym (own.1 is) ∙ c.if-eq.false)), refl, refl))
