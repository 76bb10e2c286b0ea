use Rattle.std.proofs.Common.{◌≡◌, ◌+◌, ◌≤◌, [], ◌++◌, ◌⊎◌, inl, inr, Bool, List, length, take, drop, get_or, sym, ap, ◌∙◌, arith, rules, length-append}
use Rattle.std.proofs.lemmas.Grind.{flat_map-append}
use Rattle.std.proofs.lemmas.List.{drop_all, take_more, take-append-drop}
use Rattle.etcs_bits.specs.Bits.{num}
use Rattle.etcs_bits.proofs.Numbers.{length-num}
use Rattle.etcs_vars.specs.declared.word_sink.WordSink.{WordSink}
use Rattle.etcs_vars.specs.WordSinks.{and_bits}
use Rattle.etcs_vars.specs.laws.WordSinks.{and_both}
use Rattle.etcs_c.specs.declared.fields.EtcsField.{EtcsField}
use Rattle.etcs_c.specs.ItemFields.{packed}
use Rattle.etcs_c.proofs.Packing.{packed_more}
use Rattle.etcs_c.proofs.Packs.{packs}
use Rattle.etcs_c.proofs.built.pack.Goals as goal
use Rattle.etcs_c.proofs.built.pack.Goals.{else-loop-field-test, then-loop-field-test+then-bits}

pub loop-field-preserved : goal.loop-field-preserved
loop-field-preserved c =
    let fields = c.args.fields.now in
    let i = c.loop-field.field-index in
    let none : EtcsField = record { number = 0; var = 0; width = 0 } in
    let f : EtcsField = get_or fields i none in
    let before = packed (take i fields) in
    let more : packed (take (i + 1) fields) ≡ before ++ num f.width f.number = ap packed (take_more fields i none c.loop-field-test.true) ∙ packed_more (take i fields) f in
    let long : length (packed (take (i + 1) fields)) ≡ length before + f.width = ap (λ (b : List Bool). length b) more ∙ length-append before (num f.width f.number) ∙ ap (λ k. length before + k) (length-num f.width f.number) in
    let narrow = c.requires.fit i none c.loop-field-test.true in
    let inv = c.loop-field.invariant in
    record {
      put =
          c.put.ensures
          ∙ ap (λ (s : WordSink). and_bits s (num f.width f.number)) inv.put
          ∙ and_both c.new-sink.result before (num f.width f.number)
          ∙ ap (λ (b : List Bool). and_bits c.new-sink.result b) (sym more);
      counted = omega (arith, long, inv.counted);
      few = omega (arith, narrow.0, c.if-bits.false);
    }

pub returns-clause-bits : goal.returns-clause-bits
returns-clause-bits c =
    let fields = c.args.fields.now in
    let i = c.loop-field.field-index in
    let e = c.new-sink.ensures in
    let inv = c.loop-field.invariant in
    let size : length c.new-sink.result.bytes.now ≡ length c.args.out.now = ap (λ b. length b) e.bytes in
    let all : packed fields ≡ packed (take i fields) ++ packed (drop i fields) =
    ap packed (sym (take-append-drop i fields)) ∙ flat_map-append (λ (f : EtcsField). num f.width f.number) (take i fields) (drop i fields) in
    let ends : (packed (drop i fields) ≡ []) ⊎ (8184 ≤ length (packed (take i fields))) = elim c.loop-field-test.branch [
      | else-loop-field-test w ↦ inl (ap packed (drop_all i fields (omega (arith, w.loop-field-test.false))))
      | then-loop-field-test+then-bits w ↦ inr (omega (arith, w.if-bits.true, inv.counted))
    ] in
    let p = packs c.new-sink.result c.loop-field.sink (packed fields) (packed (take i fields)) (packed (drop i fields)) c.min.result _ e.at e.word (omega (arith, inv.counted, inv.few, size, c.requires.room)) inv.put c.finish.ensures all ends (omega (arith, inv.counted, c.min.ensures)) in
    search (rules, p.name, p.bits_are, e.lent)
