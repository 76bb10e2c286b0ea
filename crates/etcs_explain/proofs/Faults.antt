-- What was wrong first is of the input.
use Rattle.std.proofs.Common.{◌≡◌, ℕ, ◌+◌, Option, Some, None, List, [], ◌∷◌, map, refl, sym, subst, ◌∙◌, inl, inr}
use Rattle.etcs_text.specs.declared.entry.Kind.{Kind}
use Rattle.etcs_runs.specs.Faults.{IsOfEngine}
use Rattle.etcs_runs.specs.Passes.{counted}
use Rattle.etcs_runs.specs.declared.form.Form.{Form}
use Rattle.etcs_runs.specs.declared.form.Form.TheVariants.{Hex, Bin, Json}
use Rattle.etcs_runs.specs.declared.fault.RunFault.{RunFault}
use Rattle.etcs_explain.specs.declared.task.Task.{Task}
use Rattle.etcs_explain.specs.Inputs.{Token, of_byte}
use Rattle.etcs_explain.specs.Parts.{Part, item, broken, good_line, bad_line, long_line, long_fault, items_of, fault_of, noted, first_fault, IsBroken, IsBad, IsBadHex, IsBadJson, IsPart, AreParts, IsUncut}
use Rattle.etcs_explain.specs.Explained.{Finished, Breaks}

-- there is none, or it is
abbrev AreOfEngine : Option RunFault → Type 0
AreOfEngine None = Unit {0}
AreOfEngine (Some fault) = IsOfEngine fault

broken_of : (kind : Kind) (number : ℕ) (bytes : List ℕ) (fault : RunFault) → IsBroken kind number bytes fault → IsOfEngine fault
broken_of kind number bytes fault h = elim h [ inl r ↦ subst IsOfEngine (sym r.2) tt | inr t ↦ subst IsOfEngine (sym t.0) tt ]

json_of : (kind : Kind) (number n : ℕ) (line : List ℕ) (fault : RunFault) → IsBadJson kind number n line fault → IsOfEngine fault
json_of kind number n line fault h = elim h [ inl r ↦ subst IsOfEngine (sym r.2) tt | inr t ↦ subst IsOfEngine (sym t.0) tt ]

hex_of : (n : ℕ) (line : List ℕ) (fault : RunFault) → IsBadHex n line fault → IsOfEngine fault
hex_of n line fault is = subst IsOfEngine (sym is) tt

bad_of : (form : Form) (kind : Kind) (number n : ℕ) (line : List ℕ) (fault : RunFault) → IsBad form kind number n line fault → IsOfEngine fault
bad_of Json kind number n line fault h = json_of kind number n line fault h
bad_of Hex kind number n line fault h = hex_of n line fault h
bad_of Bin kind number n line fault h = hex_of n line fault h

long_of_engine : (form : Form) (n : ℕ) → IsOfEngine (long_fault form n)
long_of_engine Json n = tt
long_of_engine Hex n = tt
long_of_engine Bin n = tt

part_of : (task : Task) (number : ℕ) (p : Part) → IsPart task number p → AreOfEngine (fault_of p)
part_of task number (item kind lines bytes text) h = tt
part_of task number (broken kind lines bytes fault text) h = broken_of kind number bytes fault h.3
part_of task number (good_line kind n line text) h = tt
part_of task number (bad_line kind n line fault text) h = bad_of task.from kind number n line fault h.1
part_of task number (long_line n fault text) h = subst IsOfEngine (sym h.0) (long_of_engine task.from n)

noted_of : (a b : Option RunFault) → AreOfEngine a → AreOfEngine b → AreOfEngine (noted a b)
noted_of None b one more = more
noted_of (Some fault) b one more = one

parts_of : (task : Task) (k : ℕ) (ps : List Part) (next : List Token) → AreParts task k ps next → AreOfEngine (first_fault ps)
parts_of task k [] next h = tt
parts_of task k (p ∷ ps) next h = noted_of (fault_of p) (first_fault ps) (part_of task (counted (k + 1)) p h.0) (parts_of task (k + items_of p) ps next h.2)

finished_of : (page foot : List ℕ) (task : Task) (tokens : List Token) (long output : List ℕ) (first : Option RunFault) (fault : RunFault) → Finished page foot task tokens long output first → first ≡ Some fault → IsOfEngine fault
finished_of page foot task tokens long output first fault (texts, seen, is, output_is, first_is) e =
    subst AreOfEngine (sym is.first_is ∙ first_is ∙ e) (parts_of task 0 is.parts [] is.are_parts)

pub breaks_of : (page foot : List ℕ) (task : Task) (given output : List ℕ) (fault : RunFault) → Breaks page foot task given output fault → IsOfEngine fault
breaks_of page foot task given output fault (form, uncut, h) = finished_of page foot task (map (of_byte 0) given) [] output (Some fault) fault h refl

uncut_none : IsUncut None
uncut_none = λ number k e. absurd cc

pub none_uncut : (first : Option RunFault) → first ≡ None → IsUncut first
none_uncut first e = subst IsUncut (sym e) uncut_none
