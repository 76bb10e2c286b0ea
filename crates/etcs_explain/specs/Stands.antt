-- What was written of a part; what was taken of an input, and what of it is held.
use Rattle.std.specs.Prelude.{◌≡◌, ℕ, ◌+◌, ◌-◌, ◌<◌, ◌≤◌, Bool, true, List, [], ◌∷◌, ◌++◌, length, map, take, slice_index, Option, None, Some, All, IsTrue}
use Rattle.etcs_text.specs.declared.entry.Kind.{Kind}
use Rattle.etcs_text.specs.Entries.{EntryValue}
use Rattle.etcs_text.specs.Verdicts.{IsItem}
use Rattle.etcs_runs.specs.Lines.{IsLine}
use Rattle.etcs_runs.specs.Passes.{counted}
use Rattle.etcs_runs.specs.declared.fault.RunFault.{RunFault}
use Rattle.etcs_runs.specs.declared.form.Form.TheVariants.{Hex, Bin, Json}
use Rattle.etcs_runs.specs.declared.form.Form.{Form}
use Rattle.etcs_explain.specs.declared.task.Task.{Task}
use Rattle.etcs_explain.specs.declared.seen.Seen.{Seen}
use Rattle.etcs_explain.specs.declared.items.Items.{Items}
use Rattle.etcs_explain.specs.Inputs.{Token, of_byte, of_line, placed, line_tokens, lines_tokens, lines_long}
use Rattle.etcs_explain.specs.Cuts.{AreFew, IsPast, EndsBefore, AreJoined}
use Rattle.etcs_explain.specs.Parts.{Part, IsPart, Fits, IsBroken, HasTitle, tokens_of, long_of, items_of, fault_of, text_of, noted, edge, missing}
use Rattle.etcs_explain.specs.Explained.{Explained, Finished}

-- after this number of further items, and this fault
pub record IsAfter (seen : Seen) (items : ℕ) (fault : Option RunFault) (seen' : Seen) : Type 0 where
  pub begun_is : seen'.is_begun ≡ true
  pub items_is : seen'.items ≡ counted (seen.items + items)
  pub first_is : seen'.first ≡ noted seen.first fault

-- the text of a part with this place was added, and before it the head if nothing was written before
abbrev pub Writes : List ℕ → Task → Bool → Bool → ℕ → ℕ → List ℕ → List ℕ → Type 0
Writes page task begun is_item number line text text' = (t : List ℕ) × HasTitle task is_item number line t × (text' ≡ text ++ (missing begun (edge task.layout page) ++ t))

-- the item that the bytes begin with has n of them; or n is all of them, and this is their fault
abbrev pub ItemPart : Kind → ℕ → List ℕ → ℕ → Option RunFault → Type 0
ItemPart kind number bytes n None = (0 < n) × (n ≤ length bytes) × ((e : EntryValue) × IsItem kind (take n bytes) e)
ItemPart kind number bytes n (Some fault) = (n ≡ length bytes) × IsBroken kind number bytes fault

-- a part was added, before the tokens next
pub record Added (page : List ℕ) (task : Task) (seen seen' : Seen) (p : Part) (next : List Token) (text text' : List ℕ) : Type 0 where
  pub is_part : IsPart task (counted (seen.items + 1)) p
  pub fits : Fits task.from task.kind p next
  pub text_is : text' ≡ text ++ (missing seen.is_begun (edge task.layout page) ++ text_of p)
  pub after : IsAfter seen (items_of p) (fault_of p) seen'

-- and it takes these of the input
abbrev pub AddsOne : List ℕ → Task → Seen → Seen → List Token → List Token → List ℕ → List ℕ → List ℕ → Type 0
AddsOne page task seen seen' tokens next long text text' = (p : Part) × (tokens_of p ≡ tokens) × (long_of p ≡ long) × Added page task seen seen' p next text text'

-- a line was added, whatever comes next
abbrev pub AddsLine : List ℕ → Task → Seen → Seen → List Token → List ℕ → List ℕ → List ℕ → Type 0
AddsLine page task seen seen' tokens long text text' = (next : List Token) → AddsOne page task seen seen' tokens next long text text'

-- of these tokens and long lines, before next, the first were explained
pub record TookSome (page : List ℕ) (task : Task) (all next : List Token) (longs output : List ℕ) : Type 0 where
  pub tokens : List Token
  pub rest : List Token
  pub long : List ℕ
  pub more : List ℕ
  pub seen : Seen
  pub all_are : all ≡ tokens ++ rest
  pub longs_are : longs ≡ long ++ more
  pub explained : Explained page task seen tokens (rest ++ next) long output

-- whatever was explained before, these tokens were explained too
pub record Explains (page : List ℕ) (task : Task) (seen : Seen) (text : List ℕ) (more next : List Token) (seen' : Seen) (text' : List ℕ) : Type 0 where
  pub explained : (tokens : List Token) (long output : List ℕ) → Explained page task seen tokens (more ++ next) long (output ++ text) → Explained page task seen' (tokens ++ more) next long (output ++ text')

-- or some of all that
pub record ExplainsSome (page : List ℕ) (task : Task) (seen : Seen) (text : List ℕ) (more next : List Token) (text' : List ℕ) : Type 0 where
  pub some : (tokens : List Token) (long output : List ℕ) → Explained page task seen tokens (more ++ next) long (output ++ text) → TookSome page task (tokens ++ more) next long (output ++ text')

-- ---- Bytes that are held.

-- an item that isn't all there, whose bytes are of lines before next and aren't cut
pub record Held (asked : Option Kind) (lines bytes : List ℕ) (next : List Token) : Type 0 where
  pub few : AreFew asked bytes
  pub joined : AreJoined asked lines bytes next
  pub past : 0 < length bytes → IsPast (slice_index lines (length bytes - 1)) next

-- bytes of which the first were held, and the others are of one line; if they are the last ones, no more came, and they end
-- before next
pub record Ready (last : Bool) (asked : Option Kind) (lines bytes : List ℕ) (next : List Token) : Type 0 where
  pub held : ℕ
  pub within : held ≤ length bytes
  pub few : AreFew asked (take held bytes)
  pub one : (n : ℕ) → held ≤ n → n + 1 < length bytes → slice_index lines n ≡ slice_index lines (n + 1)
  pub joined : AreJoined asked lines bytes next
  pub past : 0 < length bytes → IsPast (slice_index lines (length bytes - 1)) next
  pub all : IsTrue last → held ≡ length bytes
  pub ends : IsTrue last → 0 < length bytes → EndsBefore asked bytes next

-- so are these of lines of hexadecimal
abbrev pub AreReady : Bool → Task → List ℕ → List ℕ → List Token → Type 0
AreReady last task lines bytes next = task.from ≡ Hex → Ready last task.kind lines bytes next

-- these come after line n of hexadecimal
abbrev pub Comes : Form → ℕ → List Token → Type 0
Comes Hex n [] = Unit {0}
Comes Hex n (of_byte m b ∷ ts) = n < m
Comes Hex n (of_line m text ∷ ts) = n < m
Comes Bin n ts = Unit {0}
Comes Json n ts = Unit {0}

-- ---- An input of which some was taken.

-- what is held of lines of hexadecimal
abbrev pub Stays : Items → List Token → Type 0
Stays s next = s.explainer.task.from ≡ Hex → Held s.explainer.task.kind s.lines.items s.held.items next

-- of these tokens, before next, all but the bytes that are held were explained
pub record Took (page : List ℕ) (s : Items) (all next : List Token) (long output : List ℕ) : Type 0 where
  pub tokens : List Token
  pub all_are : all ≡ tokens ++ placed s.lines.items s.held.items
  pub explained : Explained page s.explainer.task s.explainer.seen tokens (placed s.lines.items s.held.items ++ next) long output

-- whatever was taken before, these tokens and long lines were too
pub record TakesBefore (page : List ℕ) (s : Items) (text : List ℕ) (more next : List Token) (longs : List ℕ) (t : Items) (text' : List ℕ) : Type 0 where
  pub took : (all : List Token) (long output : List ℕ) → Took page s all (more ++ next) long (output ++ text) → Took page t (all ++ more) next (long ++ longs) (output ++ text')

-- or some of all that was explained, and the rest of it is lost
pub record SomeBefore (page : List ℕ) (s : Items) (text : List ℕ) (more next : List Token) (longs : List ℕ) (t : Items) (text' : List ℕ) : Type 0 where
  pub some : (all : List Token) (long output : List ℕ) → Took page s all (more ++ next) long (output ++ text) → TookSome page t.explainer.task (all ++ more) next (long ++ longs) (output ++ text')

-- all that is held was explained, or all but an item that isn't all there
abbrev pub Passes : List ℕ → Bool → Items → List ℕ → Items → List ℕ → Type 0
Passes page last s text t text' = (next : List Token) → AreReady last s.explainer.task s.lines.items s.held.items next → TakesBefore page s text [] next [] t text' × Stays t next

abbrev pub PassesSome : List ℕ → Bool → Items → List ℕ → Items → List ℕ → Type 0
PassesSome page last s text t text' = (next : List Token) → AreReady last s.explainer.task s.lines.items s.held.items next → SomeBefore page s text [] next [] t text'

-- what is held was explained if it was cut short before these bytes, and nothing else
abbrev pub EndsCut : List ℕ → Items → List ℕ → List Token → Items → List ℕ → Type 0
EndsCut page s text line t text' = (next : List Token) → Comes s.explainer.task.from s.line next → Stays s (line ++ next) → TakesBefore page s text [] (line ++ next) [] t text' × Stays t (line ++ next)

abbrev pub EndsSome : List ℕ → Items → List ℕ → List Token → Items → List ℕ → Type 0
EndsSome page s text line t text' = (next : List Token) → Comes s.explainer.task.from s.line next → Stays s (line ++ next) → SomeBefore page s text [] (line ++ next) [] t text'

-- these tokens and long lines were taken, whatever comes after line n
pub record Takes (page : List ℕ) (n : ℕ) (s : Items) (text : List ℕ) (more : List Token) (longs : List ℕ) (t : Items) (text' : List ℕ) : Type 0 where
  pub before : (next : List Token) → Comes s.explainer.task.from n next → Stays s (more ++ next) → TakesBefore page s text more next longs t text' × Stays t next

-- or some of all that was explained
pub record TakesSome (page : List ℕ) (n : ℕ) (s : Items) (text : List ℕ) (more : List Token) (longs : List ℕ) (t : Items) (text' : List ℕ) : Type 0 where
  pub before : (next : List Token) → Comes s.explainer.task.from n next → Stays s (more ++ next) → SomeBefore page s text more next longs t text'

-- or all of it was, with the foot after it
pub record Finishes (page foot : List ℕ) (s : Items) (text text' : List ℕ) (first : Option RunFault) : Type 0 where
  pub finished : (all : List Token) (long output : List ℕ) → Stays s [] → Took page s all [] long (output ++ text) → Finished page foot s.explainer.task all long (output ++ text') first

-- what the next line has
abbrev pub next_tokens : Items → List ℕ → List Token
next_tokens s line = line_tokens s.explainer.task.kind s.explainer.task.from (s.line + 1) line

-- in an input of bytes, of which nothing was wrong
pub record BytesStand (page : List ℕ) (s : Items) (given output : List ℕ) : Type 0 where
  pub form : s.explainer.task.from ≡ Bin
  pub line : s.line ≡ 0
  pub short : length s.held.items < 1023
  pub fine : s.explainer.seen.first ≡ None
  pub took : (next : List Token) → Took page s (map (of_byte 0) given) next [] output

-- of these lines
pub record LinesTook (page : List ℕ) (s : Items) (lines : List (List ℕ)) (output : List ℕ) : Type 0 where
  pub form : s.explainer.task.from ≡ Bin → ⊥
  pub short : length s.held.items < 1023
  pub json : s.explainer.task.from ≡ Json → s.held.items ≡ []
  pub count : s.line ≡ length lines
  pub are_lines : All IsLine lines
  pub took : (next : List Token) → Comes s.explainer.task.from s.line next → Stays s next × Took page s (lines_tokens s.explainer.task.kind s.explainer.task.from 0 lines) next (lines_long 0 lines) output
