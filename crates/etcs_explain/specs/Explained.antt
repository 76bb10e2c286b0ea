-- What a run that explains promises.
use Rattle.std.specs.Prelude.{◌≡◌, ℕ, ◌<◌, ◌⊎◌, Bool, true, false, List, [], ◌∷◌, ◌++◌, flat_map, length, map, Option, None, Some, Result, Ok, Err}
use Rattle.etcs_runs.specs.Passes.{counted}
use Rattle.etcs_runs.specs.Promises.{Promises}
use Rattle.etcs_runs.specs.declared.form.Form.TheVariants.{Bin}
use Rattle.etcs_runs.specs.declared.fault.RunFault.{RunFault}
use Rattle.etcs_runs.specs.declared.fault.RunFault.TheVariants.{Memory}
use Rattle.etcs_explain.specs.declared.task.Task.{Task}
use Rattle.etcs_explain.specs.declared.seen.Seen.{Seen}
use Rattle.etcs_explain.specs.Inputs.{Token, of_byte, placed, Has, Begins, SoFar}
use Rattle.etcs_explain.specs.Parts.{Part, AreParts, tokens_of, long_of, items_in, first_fault, IsUncut, edge, missing, written}

-- there is a part
abbrev pub has_some : List Part → Bool
has_some [] = false
has_some (p ∷ ps) = true

-- these tokens, and the numbers of lines that are too long, are those of some parts, one after another, before the tokens
-- next, and this is their text, after the head of a page if there is a part; seen has whether there is one, how many items
-- they have, and the first fault
pub record Explained (page : List ℕ) (task : Task) (seen : Seen) (tokens next : List Token) (long : List ℕ) (output : List ℕ) : Type 0 where
  pub parts : List Part
  pub are_parts : AreParts task 0 parts next
  pub tokens_are : tokens ≡ flat_map tokens_of parts
  pub long_is : long ≡ flat_map long_of parts
  pub output_is : output ≡ written (edge task.layout page) parts
  pub begun_is : seen.is_begun ≡ has_some parts
  pub items_is : seen.items ≡ counted (items_in parts)
  pub first_is : seen.first ≡ first_fault parts

-- all that is there of an input was explained, but for the last bytes, fewer than 1,023
abbrev pub Outputs : List ℕ → Task → List ℕ → List ℕ → Type 0
Outputs page task given output = (tokens : List Token) × (lines held : List ℕ) × (long : List ℕ) × (seen : Seen) × SoFar task.kind task.from given (tokens ++ placed lines held) long × (length held < 1023) × Explained page task seen tokens (placed lines held) long output

-- some first parts of what every input has that begins so were explained
abbrev pub OutputsFirst : List ℕ → Task → List ℕ → List ℕ → Type 0
OutputsFirst page task given output = (tokens rest : List Token) × (long more : List ℕ) × (seen : Seen) × Begins task.kind task.from given (tokens ++ rest) (long ++ more) × Explained page task seen tokens rest long output

-- all of these tokens and long lines were explained, between the head and the foot of a page, and this was wrong first
abbrev pub Finished : List ℕ → List ℕ → Task → List Token → List ℕ → List ℕ → Option RunFault → Type 0
Finished page foot task tokens long output first = (texts : List ℕ) × (seen : Seen) × Explained page task seen tokens [] long texts × (output ≡ texts ++ (missing seen.is_begun (edge task.layout page) ++ edge task.layout foot)) × (seen.first ≡ first)

-- a whole input was explained, and this was wrong first
abbrev pub Ends : List ℕ → List ℕ → Task → List ℕ → List ℕ → Option RunFault → Type 0
Ends page foot task given output first = (tokens : List Token) × (long : List ℕ) × Has task.kind task.from given tokens long × Finished page foot task tokens long output first

-- all of some bytes were explained, and this was wrong first; it isn't that they end inside an item
abbrev pub Breaks : List ℕ → List ℕ → Task → List ℕ → List ℕ → RunFault → Type 0
Breaks page foot task given output fault = (task.from ≡ Bin) × IsUncut (Some fault) × Finished page foot task (map (of_byte 0) given) [] output (Some fault)

-- the text of some first parts of an input that begins so; or all the text of an input of bytes that breaks
abbrev pub Prints : List ℕ → List ℕ → Task → List ℕ → List ℕ → Type 0
Prints page foot task given output = OutputsFirst page task given output ⊎ ((fault : RunFault) × Breaks page foot task given output fault)

-- memory ran out, and the texts of some first parts were written
abbrev pub Starves : List ℕ → Task → List ℕ → List ℕ → RunFault → Type 0
Starves page task given output fault = (fault ≡ Memory) × OutputsFirst page task given output

-- what a run that explains promises, as the promises of an engine; the tally is the first fault, if any
abbrev pub explanations : List ℕ → List ℕ → Task → Promises (Option RunFault)
explanations page foot task = record {
  Outputs = Outputs page task;
  Ends = Ends page foot task;
  Stops = λ given output fault. Starves page task given output fault ⊎ Breaks page foot task given output fault;
  StopsAtEnd = Starves page task;
  Prints = Prints page foot task;
}

-- what a run returns that ended so: after a whole input what was wrong first, if anything was
abbrev pub answer_of : Result (Option RunFault) RunFault → Result (Unit {0}) RunFault
answer_of (Ok None) = Ok tt
answer_of (Ok (Some fault)) = Err fault
answer_of (Err fault) = Err fault
