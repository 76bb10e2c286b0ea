use Rattle.std.proofs.Common.{ℕ, ◌+◌, List, ap, refl, ◌∙◌, Err}
use Rattle.etcs_vars.specs.declared.var.Var.{Var}
use Rattle.etcs_text.specs.declared.entry.Kind.{Kind}
use Rattle.etcs_text.specs.Entries.{EntryValue}
use Rattle.etcs_json.specs.TreeReading.{IsTreeOf}
use Rattle.etcs_json.specs.JsonLines.{OfLine}
use Rattle.etcs_json.specs.Loose.{IsLoose}
use Rattle.etcs_stream.specs.JsonItems.{IsItemLine, IsRefusedLine}
use Rattle.etcs_stream.proofs.json_lines.JsonLines.entry_in.Goals as goal

-- no tree of an item or of older JSON is in the line
abbrev HasNone : Kind → List ℕ → Type 0
HasNone kind line = (o : EntryValue) → IsLoose kind o → OfLine (λ d. IsTreeOf o d) line → ⊥

no_item : (kind : Kind) (line : List ℕ) → HasNone kind line → (e : EntryValue) → IsItemLine kind line e → ⊥
no_item kind line none e (some, short, (d, utf8, is, (o, r, s, reads))) = none o s.loose (d, utf8, is, s.tree)

no_refusal : (kind : Kind) (line : List ℕ) → HasNone kind line → (i : ℕ) (x : Var) → IsRefusedLine kind line i x → ⊥
no_refusal kind line none i x (some, short, (d, utf8, is, (o, b, s, out))) = none o s.loose (d, utf8, is, s.tree)

pub returns-in-Err-Shape-clause-err : goal.returns-in-Err-Shape-clause-err
returns-in-Err-Shape-clause-err c =
    let kind = c.args.self.now.job.kind in
    let line = c.args.line.now in
    let none : HasNone kind line = c.from_line.ensures.shape (c.in-Err-Shape.is ∙ ap Err c.in-Err-Shape.field-0-is) in
    (refl, c.requires.some, c.requires.few, no_item kind line none, no_refusal kind line none)

pub returns-in-Err-Refused-clause-err : goal.returns-in-Err-Refused-clause-err
returns-in-Err-Refused-clause-err c =
    let says = c.from_line.ensures.refused c.in-Err-Refused.bit c.in-Err-Refused.var (c.in-Err-Refused.is ∙ ap Err c.in-Err-Refused.field-0-is) in
    (ap (λ (n : ℕ). n + 1) c.count.ensures, c.requires.few, (c.requires.some, c.if-line-gt-MOST_LINE.false, says))
