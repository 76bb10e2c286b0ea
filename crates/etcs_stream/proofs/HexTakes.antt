-- Lines of hexadecimal, one by one.
use Rattle.std.proofs.Common.{◌≡◌, ℕ, ◌+◌, ◌<◌, ◌≤◌, List, [], ◌∷◌, ◌++◌, length, Some, None, Result, Ok, Err, refl, sym, ap, subst, ◌∙◌, arith}
use Rattle.std.specs.Prelude.{◌⊎◌, OnOk, IfErr}
use Rattle.std.proofs.lemmas.List.{append-nil}
use Rattle.std.proofs.lemmas.List.Elements.{All-nil}
use Rattle.etcs_runs.specs.declared.form.Form.{Form}
use Rattle.etcs_runs.specs.declared.form.Form.TheVariants.{Hex}
use Rattle.etcs_stream.specs.declared.job.Job.{Job}
use Rattle.etcs_runs.specs.declared.fault.RunFault.{RunFault}
use Rattle.etcs_runs.specs.declared.fault.RunFault.TheVariants.{BadHex}
use Rattle.etcs_runs.specs.Faults.{IsOfEngine}
use Rattle.etcs_runs.specs.Lines.{IsLine, strip_cr, lines_text}
use Rattle.etcs_stream.specs.Lines.{most_characters, bad_place, line_bytes, lines_bytes}
use Rattle.etcs_stream.specs.Reported.{Reported}
use Rattle.etcs_stream.specs.Printers.{nothing_reported}
use Rattle.etcs_text.specs.Readers.{ReaderValue, seen_bits}
use Rattle.etcs_stream.specs.Readers.{Awaits, HasRoom}
use Rattle.etcs_stream.specs.Taking.{Advances, Halts}
use Rattle.etcs_stream.specs.Stands.{HexStands, HexTook, ItemsStand}
use Rattle.etcs_stream.specs.Engines.{Stops}
use Rattle.etcs_stream.proofs.Standing.{stand_more, stand_nothing}
use Rattle.etcs_stream.proofs.Cutting.{AreGood-append}
use Rattle.etcs_stream.proofs.HexSteps.{line_says, hex_line_stops, hex_long_open}

-- nothing was taken
pub nothing_took : (job : Job) (r : ReaderValue) (n : Reported) → job.from ≡ Hex → Awaits job.kind r → seen_bits r.progress ≡ [] → n ≡ nothing_reported → HexTook job r n [] []
nothing_took job r n form waits seen count = record { form = form; waits = waits; lines_good = tt; items = stand_nothing job (seen_bits r.progress) n seen count waits.unfinished }

-- characters without a LF after the lines that were taken
pub kept_after : (job : Job) (r : ReaderValue) (n : Reported) (lines : List (List ℕ)) (begun output : List ℕ) → HexTook job r n lines output → IsLine begun → HexStands job r n begun (length lines) (lines_text lines ++ begun) output
kept_after job r n lines begun output h l =
    record { form = h.form; waits = h.waits; lines = lines; given_is = refl; lines_good = h.lines_good; is_line = l; line_is = refl; items = h.items }

none_after : (job : Job) (r : ReaderValue) (n : Reported) (lines : List (List ℕ)) (output : List ℕ) → HexTook job r n lines output → HexStands job r n [] (length lines) (lines_text lines) output
none_after job r n lines output h =
    record { form = h.form; waits = h.waits; lines = lines; given_is = sym (append-nil (lines_text lines)); lines_good = h.lines_good; is_line = All-nil (λ c. c ≡ 10 → ⊥); line_is = refl; items = h.items }

module _ (job : Job) (r : ReaderValue) (n : Reported) (lines : List (List ℕ)) (output t : List ℕ) (h : HexTook job r n lines (output ++ t)) (raw : List ℕ) where
  one_more : (r' : ReaderValue) (n' : Reported) (t' : List ℕ) → bad_place (strip_cr raw) ≡ None → Awaits job.kind r' → n'.count ≤ 1000000 → HasRoom n'.count (seen_bits r'.progress) → Advances job.kind job.command (seen_bits r.progress) (seen_bits r'.progress) n n' (line_bytes (strip_cr raw)) t t' → HexTook job r' n' (lines ++ (raw ∷ [])) (output ++ t')
  one_more r' n' t' good waits few room more = record {
    form = h.form;
    waits = waits;
    lines_good = AreGood-append lines (raw ∷ []) h.lines_good (good, tt);
    items =
        subst (λ x. ItemsStand job (seen_bits r'.progress) n' x (output ++ t')) (line_says lines raw)
        (stand_more job (seen_bits r.progress) n (lines_bytes lines) output t h.items (line_bytes (strip_cr raw)) t' (seen_bits r'.progress) n' more few room waits.unfinished);
  }

  -- what the code returns for a line
  pub took_more : (r' : ReaderValue) (n' : Reported) (t' line : List ℕ) (answer : Result Unit RunFault) → line ≡ strip_cr raw → OnOk answer (bad_place line ≡ None) → OnOk answer (Awaits job.kind r') → OnOk answer (n'.count ≤ 1000000) → (HasRoom n.count (seen_bits r.progress) → OnOk answer (HasRoom n'.count (seen_bits r'.progress))) → OnOk answer (Advances job.kind job.command (seen_bits r.progress) (seen_bits r'.progress) n n' (line_bytes line) t t') → OnOk answer (HexTook job r' n' (lines ++ (raw ∷ [])) (output ++ t'))
  took_more r' n' t' line (Ok u) e good waits few room more =
      one_more r' n' t' (subst (λ z. bad_place z ≡ None) e good) waits few (room h.items.room) (subst (λ z. Advances job.kind job.command (seen_bits r.progress) (seen_bits r'.progress) n n' (line_bytes z) t t') e more)
  took_more r' n' t' line (Err f) e good waits few room more = tt

  abbrev pub NotTaken : List ℕ → ℕ → List ℕ → RunFault → Type 0
  NotTaken line number t' e = ((place : ℕ) × (bad_place line ≡ Some place) × (e ≡ BadHex number place) × (t' ≡ t)) ⊎ ((bad_place line ≡ None) × Halts job.kind job.command (seen_bits r.progress) n (line_bytes line) t t' e)

  pub took_stops : (more t' line : List ℕ) (number : ℕ) (answer : Result Unit RunFault) → IsLine raw → line ≡ strip_cr raw → number ≡ length lines + 1 → IfErr answer (λ e. NotTaken line number t' e) → IfErr answer (λ e. IsOfEngine e × Stops job (lines_text lines ++ (raw ++ 10 ∷ more)) (output ++ t') e)
  took_stops more t' line number (Ok u) l e m h' = tt
  took_stops more t' line number (Err f) l e m h' =
      let why : NotTaken (strip_cr raw) (length lines + 1) t' f = subst (λ (k : ℕ). NotTaken (strip_cr raw) k t' f) m (subst (λ (z : List ℕ). NotTaken z number t' f) e h') in
      hex_line_stops job r n [] (length lines) (lines_text lines) output t (none_after job r n lines (output ++ t) h) raw raw more t' f l refl why

-- a line is too long
pub long_stops : (job : Job) (r : ReaderValue) (n : Reported) (lines : List (List ℕ)) (part output : List ℕ) (number : ℕ) (fault : RunFault) → HexTook job r n lines output → IsLine part → most_characters job.from + 1 < length part → number ≡ length lines + 1 → fault ≡ BadHex number 4096 → IsOfEngine fault × Stops job (lines_text lines ++ part) output fault
long_stops job r n lines part output number fault h l long m e =
    let end : output ++ [] ≡ output = append-nil output in
    let h' : HexTook job r n lines (output ++ []) = subst (λ (z : List ℕ). HexTook job r n lines z) (sym end) h in
    let most : 4097 < length part = subst (λ (f : Form). most_characters f + 1 < length part) h.form long in
    subst (λ (z : List ℕ). IsOfEngine fault × Stops job (lines_text lines ++ part) z fault) end
    (hex_long_open job r n [] (length lines) (lines_text lines) output [] (none_after job r n lines (output ++ []) h') part fault l (omega (arith, most)) (e ∙ ap (λ (k : ℕ). BadHex k 4096) m))
