-- The first items of an input are few, and are read.
use Rattle.std.proofs.Common.{ℕ, ◌≤◌, List, [], ◌∷◌, ◌++◌, length, map, inl, inr, sym, subst, append_assoc}
use Rattle.etcs_text.specs.declared.entry.Kind.{Kind}
use Rattle.etcs_runs.specs.declared.form.Form.{Form}
use Rattle.etcs_runs.specs.declared.form.Form.TheVariants.{Hex, Bin, Json}
use Rattle.etcs_text.specs.Entries.{EntryValue}
use Rattle.etcs_stream.specs.declared.job.Job.{Job}
use Rattle.etcs_runs.specs.declared.fault.RunFault.{RunFault}
use Rattle.etcs_runs.specs.Faults.{IsOfEngine}
use Rattle.etcs_runs.specs.Lines.{strip_cr}
use Rattle.etcs_stream.specs.Inputs.{ItemsOf, FirstItems}
use Rattle.etcs_stream.specs.JsonItems.{AreItemLines, FirstJson}
use Rattle.etcs_stream.specs.Engines.{Outputs, Stops}
use Rattle.etcs_stream.specs.laws.Printing.{outputs_longer}
use Rattle.etcs_stream.proofs.OutputLengths.{AreRead, are_read}

AreRead-append : (kind : Kind) (es fs : List EntryValue) → AreRead kind es → AreRead kind fs → AreRead kind (es ++ fs)
AreRead-append kind [] fs h k = k
AreRead-append kind (e ∷ es) fs h k = (h.0, h.1, AreRead-append kind es fs h.2 k)

lines_read : (kind : Kind) (lines : List (List ℕ)) (es : List EntryValue) → AreItemLines kind lines es → AreRead kind es
lines_read kind [] es h = rw h tt
lines_read kind (line ∷ lines) es (inl h) = lines_read kind lines es h.1
lines_read kind (line ∷ lines) es (inr (e, beyond, is, one, h)) = rw is (one.2.3.1, one.2.3.3, lines_read kind lines beyond h)

first_json : (kind : Kind) (given : List ℕ) (es : List EntryValue) → FirstJson kind given es → (length es ≤ 1000000) × AreRead kind es
first_json kind given es (inl (lines, rest, h)) = (h.few, lines_read kind (map strip_cr lines) es h.are_items)
first_json kind given es (inr h) =
    (h.few, rw h.items_are (AreRead-append kind h.front h.beyond (lines_read kind (map strip_cr h.lines) h.front h.lines_are.are_items) (lines_read kind (h.last ∷ []) h.beyond h.last_is)))

pub first_read : (form : Form) (kind : Kind) (given : List ℕ) (es : List EntryValue) → FirstItems form kind given es → (length es ≤ 1000000) × AreRead kind es
first_read Hex kind given es h = (h.few, are_read kind es h.spelt h.are_spelled)
first_read Bin kind given es h = (h.few, are_read kind es h.spelt h.are_spelled)
first_read Json kind given es h = first_json kind given es h

-- ---- A text that continues.

stops_longer : (job : Job) (given more output : List ℕ) (fault : RunFault) → Outputs job given output → Stops job given output fault → Stops job (given ++ more) output fault
stops_longer job given more output fault outputs (inl h) = inl (h.0, outputs_longer job given more output outputs)
stops_longer job given more output fault outputs (inr h) =
    inr (h.0, h.1, h.2, h.3, λ z. subst (λ (t : List ℕ). ItemsOf job.from job.kind t h.0 h.1) (sym (append_assoc given more z)) (h.4 (more ++ z)))

-- a line that is refused is so however it continues
pub line_longer : (job : Job) (front part more output : List ℕ) (fault : RunFault) → Outputs job (front ++ part) output → IsOfEngine fault × Stops job (front ++ part) output fault → IsOfEngine fault × Stops job (front ++ (part ++ more)) output fault
line_longer job front part more output fault outputs (of, stops) =
    (of, subst (λ (z : List ℕ). Stops job z output fault) (append_assoc front part more) (stops_longer job (front ++ part) more output fault outputs stops))
