-- What was written is the text of the first items, however the input continues.
use Rattle.std.proofs.Common.{◌≡◌, ℕ, Bool, List, [], ◌∷◌, ◌++◌, inl, inr, refl, sym, ap, subst, ◌∙◌, append_assoc}
use Rattle.std.proofs.lemmas.List.{append-nil}
use Rattle.etcs_bits.specs.Bits.{bits}
use Rattle.etcs_bits.proofs.ByteBits.{bits-append}
use Rattle.etcs_text.specs.declared.entry.Kind.{Kind}
use Rattle.etcs_text.specs.Entries.{EntryValue}
use Rattle.etcs_runs.specs.declared.form.Form.{Form}
use Rattle.etcs_runs.specs.declared.form.Form.TheVariants.{Hex, Bin, Json}
use Rattle.etcs_runs.specs.declared.fault.RunFault.{RunFault}
use Rattle.etcs_runs.specs.Lines.{lines_text}
use Rattle.etcs_runs.specs.Promises.{Sound}
use Rattle.etcs_runs.proofs.Keeping.{longer_text}
use Rattle.etcs_stream.specs.declared.job.Job.{Job}
use Rattle.etcs_stream.specs.Inputs.{End, ended, refused, truncated, bad_hex, bad_json, endless, IsBad, BitItems, BadItems, ItemsOf, JsonItems, SaysSoFar, SaysFirst, WholeBytes, WholeItems, FirstBytes, FirstItems}
use Rattle.etcs_stream.specs.JsonItems.{FirstJson, JsonFront}
use Rattle.etcs_stream.specs.Engines.{Outputs, Stops, StopsAtEnd, Prints, promises}

pub first_bytes : (form : Form) (kind : Kind) (given : List ℕ) (es : List EntryValue) → FirstBytes form kind given es → FirstItems form kind given es
first_bytes Hex kind given es h = h
first_bytes Bin kind given es h = h
first_bytes Json kind given es h = absurd h.says

-- the items of these bytes are the first of an input that says them first
firsts : (form : Form) (kind : Kind) (given bytes : List ℕ) (es : List EntryValue) (end : End) → SaysFirst form given bytes → BitItems kind (bits bytes) es end → FirstItems form kind given es
firsts form kind given bytes es end says h = first_bytes form kind given es (record { bytes = bytes; says = says; spelt = h.spelt; rest = h.rest; are_spelled = h.are_spelled; bits_are = h.bits_are; few = h.few })

-- the items of the lines before a bad one end in some way
pub bad_items : (kind : Kind) (b : List Bool) (es : List EntryValue) (line place : ℕ) (end : End) → BadItems kind b es line place end → (end' : End) × BitItems kind b es end'
bad_items kind b es line place ended h = absurd h
bad_items kind b es line place (refused i x) h = (refused i x, h)
bad_items kind b es line place (truncated k) h = absurd h
bad_items kind b es line place (bad_hex l p) (el, ep, inl h) = (ended, h)
bad_items kind b es line place (bad_hex l p) (el, ep, inr (k, h)) = (truncated k, h)
bad_items kind b es line place (bad_json l) h = absurd h
bad_items kind b es line place endless h = (endless, h)

front_of : (text bytes : List ℕ) (line place : ℕ) → IsBad text bytes line place → SaysFirst Hex text bytes
front_of text bytes line place bad = elim bad.text_is [
  | inl h ↦ inl (bad.lines, bad.bad ++ 10 ∷ bad.beyond, h.0, bad.lines_good, bad.bytes_are)
  | inr h ↦ inl (bad.lines, bad.bad, h.0, bad.lines_good, bad.bytes_are)
]

all_first_json : (kind : Kind) (input : List ℕ) (es : List EntryValue) (end : End) → JsonItems kind input es end → FirstJson kind input es
all_first_json kind input es ended h = inr h
all_first_json kind input es (refused i x) h = inl (h.0, h.2.rest, h.2.front)
all_first_json kind input es (truncated k) h = absurd h
all_first_json kind input es (bad_hex line place) h = absurd h
all_first_json kind input es (bad_json line) h = inl (h.0, h.2.rest, h.2.front)
all_first_json kind input es endless h = inl (h.0, h.2.rest, h.2.front)

pub all_first : (form : Form) (kind : Kind) (input : List ℕ) (es : List EntryValue) (end : End) → ItemsOf form kind input es end → FirstItems form kind input es
all_first Bin kind input es end h = firsts Bin kind input input es end refl h
all_first Json kind input es end h = all_first_json kind input es end h
all_first Hex kind input es end (inl (bytes, says, h)) = firsts Hex kind input bytes es end (inr says) h
all_first Hex kind input es end (inr (bytes, line, place, bad, h)) =
    let (end', items) = bad_items kind (bits bytes) es line place end h in
    firsts Hex kind input bytes es end' (front_of input bytes line place bad) items

so_far_first : (form : Form) (given bytes : List ℕ) → SaysSoFar form given bytes → SaysFirst form given bytes
so_far_first Bin given bytes h = h
so_far_first Json given bytes h = absurd h
so_far_first Hex given bytes h = inl (h.0, h.1, h.2, h.3, h.5)

whole_bytes : (form : Form) (kind : Kind) (given : List ℕ) (es : List EntryValue) → WholeBytes form kind given es → FirstBytes form kind given es
whole_bytes form kind given es h = record { bytes = h.bytes; says = so_far_first form given h.bytes h.says; spelt = h.spelt; rest = h.rest; are_spelled = h.are_spelled; bits_are = h.bits_are; few = h.few }

pub whole_first : (form : Form) (kind : Kind) (given : List ℕ) (es : List EntryValue) → WholeItems form kind given es → FirstItems form kind given es
whole_first Hex kind given es h = whole_bytes Hex kind given es h
whole_first Bin kind given es h = whole_bytes Bin kind given es h
whole_first Json kind given es h = inl (h.0, h.1, h.2)

pub outputs_prints : (job : Job) (given output : List ℕ) → Outputs job given output → Prints job given output
outputs_prints job given output h = (h.0, whole_first job.from job.kind given h.0 h.1, h.2)

pub end_prints : (job : Job) (given output : List ℕ) (f : RunFault) → StopsAtEnd job given output f → Prints job given output
end_prints job given output f (inl h) = h.1
end_prints job given output f (inr h) = (h.0, all_first job.from job.kind given h.0 h.1 h.4, h.3)

pub stops_prints : (job : Job) (given output : List ℕ) (f : RunFault) → Stops job given output f → Prints job given output
stops_prints job given output f (inl h) = h.1
stops_prints job given output f (inr h) =
    let here : ItemsOf job.from job.kind given h.0 h.1 = subst (λ (z : List ℕ). ItemsOf job.from job.kind z h.0 h.1) (append-nil given) (h.4 []) in
    (h.0, all_first job.from job.kind given h.0 h.1 here, h.3)

-- ---- A text that continues.

json_longer : (kind : Kind) (given more : List ℕ) (es : List EntryValue) (lines : List (List ℕ)) (rest : List ℕ) → JsonFront kind given es lines rest → JsonFront kind (given ++ more) es lines (rest ++ more)
json_longer kind given more es lines rest h = record { text_is = longer_text (lines_text lines) rest given more h.text_is; are_lines = h.are_lines; are_items = h.are_items; few = h.few }

longer_bits : (given more bytes : List ℕ) (spelt rest : List Bool) → bytes ≡ given → bits bytes ≡ spelt ++ rest → bits (given ++ more) ≡ spelt ++ (rest ++ bits more)
longer_bits given more bytes spelt rest e h =
    bits-append given more ∙ ap (λ (z : List Bool). z ++ bits more) (ap bits (sym e) ∙ h) ∙ append_assoc spelt rest (bits more)

-- the items that are whole in a text are the first of a longer one
whole_longer : (form : Form) (kind : Kind) (given more : List ℕ) (es : List EntryValue) → WholeItems form kind given es → FirstItems form kind (given ++ more) es
whole_longer Hex kind given more es h =
    let (lines, rest, is, good, l, e) = h.says in
    record { bytes = h.bytes; says = inl (lines, rest ++ more, longer_text (lines_text lines) rest given more is, good, e); spelt = h.spelt; rest = h.rest; are_spelled = h.are_spelled; bits_are = h.bits_are; few = h.few }
whole_longer Bin kind given more es h =
    record { bytes = given ++ more; says = refl; spelt = h.spelt; rest = h.rest ++ bits more; are_spelled = h.are_spelled; bits_are = longer_bits given more h.bytes h.spelt h.rest h.says h.bits_are; few = h.few }
whole_longer Json kind given more es (lines, rest, front, l) = inl (lines, rest ++ more, json_longer kind given more es lines rest front)

pub outputs_longer : (job : Job) (given more output : List ℕ) → Outputs job given output → Prints job (given ++ more) output
outputs_longer job given more output h = (h.0, whole_longer job.from job.kind given more h.0 h.1, h.2)

pub sound : (job : Job) → Sound (promises job)
sound job = record { outputs_print = outputs_prints job; stops_print = stops_prints job; last_prints = end_prints job; starves = λ given more output h. inl (refl, outputs_longer job given more output h) }
