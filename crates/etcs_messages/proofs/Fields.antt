-- Variables one after another, and those after them.
use Rattle.std.proofs.Common.{◌≡◌, ℕ, suc, ◌+◌, List, [], ◌∷◌, ◌++◌, length, drop, refl, sym, ap, subst, ◌∙◌, arith, length-append}
use Rattle.std.specs.Prelude.{take}
use Rattle.etcs_bits.specs.Bits.{num}
use Rattle.etcs_bits.proofs.Numbers.{length-num}
use Rattle.etcs_vars.specs.declared.var.Var.{Var}
use Rattle.etcs_vars.specs.declared.var.Var.TheVariants.{NID_MESSAGE, L_MESSAGE}
use Rattle.etcs_vars.specs.Vars.{width}
use Rattle.etcs_vars.specs.Reading.{Reading, spelled, IsAdmitted}
use Rattle.etcs_vars.proofs.Sent.{length-sent}
use Rattle.etcs_tables.specs.declared.row.Way.{Way}
use Rattle.etcs_tables.specs.MessageRows.{header_bits}
use Rattle.etcs_reader.specs.Fields.{ReadsFields}
use Rattle.etcs_sequence.specs.Labels.{labelled, widths}
use Rattle.etcs_sequence.proofs.LabelLaws.{labelled_none}
use Rattle.etcs_tables.specs.Headers.{head_row}
use Rattle.etcs_messages.specs.Messages.{head_reading}
use Rattle.etcs_messages.proofs.Ways.{header_is}

pub fields_append : (vs ws : List Var) (a b : Reading) → ReadsFields vs a → ReadsFields ws b → ReadsFields (vs ++ ws) (a ++ b)
fields_append [] ws a b h k = subst (λ (r : Reading). ReadsFields ws (r ++ b)) (sym h) k
fields_append (v ∷ vs) ws a b (n, r, ok, e, h) k = (n, r ++ b, ok, ap (λ (x : Reading). x ++ b) e, fields_append vs ws r b h k)

pub fields_split : (vs ws : List Var) (r : Reading) → ReadsFields (vs ++ ws) r → (a : Reading) × (b : Reading) × (r ≡ a ++ b) × ReadsFields vs a × ReadsFields ws b
fields_split [] ws r h = ([], r, refl, refl, h)
fields_split (v ∷ vs) ws r (n, q, ok, e, h) =
    let (a, b, f, ha, hb) = fields_split vs ws q h in
    ((v, n) ∷ a, b, e ∙ ap (λ (x : Reading). (v, n) ∷ x) f, (n, a, ok, refl, ha), hb)

pub fields_admitted : (vs : List Var) (r : Reading) → ReadsFields vs r → IsAdmitted r
fields_admitted [] r h = subst IsAdmitted (sym h) tt
fields_admitted (v ∷ vs) r (n, q, ok, e, h) = subst IsAdmitted (sym e) (ok, fields_admitted vs q h)

pub fields_count : (vs : List Var) (r : Reading) → ReadsFields vs r → length r ≡ length vs
fields_count [] r h = ap length h
fields_count (v ∷ vs) r (n, r', a, e, h) = ap length e ∙ ap suc (fields_count vs r' h)

pub fields_length : (vs : List Var) (r : Reading) → ReadsFields vs r → length (spelled r) ≡ widths vs
fields_length [] r h = rw h refl
fields_length (v ∷ vs) r (n, r', a, e, h) = rw e (length-append (num (width v) n) (spelled r') ∙ rw (length-num, fields_length vs r' h) refl)

pub widths_append : (vs ws : List Var) → widths (vs ++ ws) ≡ widths vs + widths ws
widths_append [] ws = omega arith
widths_append (v ∷ vs) ws = let h = widths_append vs ws in omega (arith, h)

pub labelled_cut : (vs ws : List Var) (f : List ℕ) → labelled (vs ++ ws) f ≡ labelled vs (take (length vs) f) ++ labelled ws (drop (length vs) f)
labelled_cut [] ws f = refl
labelled_cut (v ∷ vs) ws [] = sym (labelled_none ws)
labelled_cut (v ∷ vs) ws (n ∷ f) = ap (λ (r : Reading). (v, n) ∷ r) (labelled_cut vs ws f)

-- ---- The header.

pub headed_length : (nid len : ℕ) (r : Reading) → length (spelled ((NID_MESSAGE, nid) ∷ (L_MESSAGE, len) ∷ r)) ≡ 18 + length (spelled r)
headed_length nid len r = omega (arith, length-sent NID_MESSAGE nid ((L_MESSAGE, len) ∷ r), length-sent L_MESSAGE len r)

pub head_bits : (way : Way) (h : Reading) → ReadsFields (head_row way) h → 18 + length (spelled h) ≡ header_bits way
head_bits way h reads = (let a = fields_length (head_row way) h reads in let b = header_is way in omega (arith, a, b))

pub head_length : (way : Way) (nid len : ℕ) (h : Reading) → ReadsFields (head_row way) h → length (spelled (head_reading nid len h)) ≡ header_bits way
head_length way nid len h reads = headed_length nid len h ∙ head_bits way h reads
