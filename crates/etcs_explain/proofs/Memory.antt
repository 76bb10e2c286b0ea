-- What a run returns where memory was refused.
use Rattle.std.proofs.Common.{◌≡◌, ℕ, ◌+◌, ◌<◌, List, [], ◌∷◌, ◌++◌, length, sym, subst}
use Rattle.std.specs.Prelude.{Result, Ok, Err, IfOk, IfErr, OnOk, OnErr, alloc_error}
use Rattle.std.specs.declared.alloc.AllocError.{AllocError}
use Rattle.etcs_runs.specs.Lines.{IsLine, strip_cr}
use Rattle.etcs_runs.specs.declared.form.Form.TheVariants.{Json}
use Rattle.etcs_runs.specs.declared.fault.RunFault.{RunFault}
use Rattle.etcs_runs.specs.declared.fault.RunFault.TheVariants.{Memory}
use Rattle.etcs_explain.specs.declared.items.Items.{Items}
use Rattle.etcs_explain.specs.Inputs.{line_long}
use Rattle.etcs_explain.specs.Stands.{AddsLine, Takes, LinesTook, next_tokens}
use Rattle.etcs_explain.proofs.Standing.{took_line, took_too_long}

pub memory_err : {T : Type 0} (done : Result T AllocError) (r : Result T RunFault) (P : Type 0) (Q : RunFault → Type 0) → IfErr r (λ e. (e ≡ Memory) × (done ≡ Err alloc_error)) → OnErr done P → (P → Q Memory) → IfErr r Q
memory_err done (Ok x) P Q is h f = tt
memory_err done (Err e) P Q (memory, was) h f = subst Q (sym memory) (f (subst (λ z. OnErr z P) was h))

on_ok : {T E : Type 0} (done : Result T E) (x : T) (P : Type 0) → done ≡ Ok x → OnOk done P → P
on_ok done x P was h = subst (λ z. OnOk z P) was h

pub line_ok : {T : Type 0} (done : Result T AllocError) (r : Result T RunFault) (page : List ℕ) (s t : Items) (lines : List (List ℕ)) (raw line output text text' : List ℕ) → IfOk r (λ x. done ≡ Ok x) → LinesTook page s lines (output ++ text) → IsLine raw → line ≡ strip_cr raw → t.explainer.task ≡ s.explainer.task → t.line ≡ s.line + 1 → OnOk done (Takes page (s.line + 1) s text (next_tokens s line) (line_long (s.line + 1) line) t text') → OnOk done (length t.held.items < 1023) → (s.explainer.task.from ≡ Json → OnOk done (t.held.items ≡ [])) → OnOk r (LinesTook page t (lines ++ raw ∷ []) (output ++ text'))
line_ok done (Ok x) page s t lines raw line output text text' was h l e te next takes short json =
    took_line page s t lines raw line output text text' h l e te next (on_ok done x _ was takes) (on_ok done x _ was short) (λ j. on_ok done x _ was (json j))
line_ok done (Err e') page s t lines raw line output text text' was h l e te next takes short json = tt

pub ends_ok : {T : Type 0} (done : Result T AllocError) (r : Result T RunFault) (P Q : T → Type 0) → IfOk r (λ x. done ≡ Ok x) → ((x : T) → P x → Q x) → IfOk done P → IfOk r Q
ends_ok done (Ok x) P Q was f h = f x (subst (λ z. IfOk z P) was h)
ends_ok done (Err e) P Q was f h = tt

pub long_ok : {T : Type 0} (done : Result T AllocError) (r : Result T RunFault) (page : List ℕ) (s t : Items) (lines : List (List ℕ)) (part output text text' : List ℕ) → IfOk r (λ x. done ≡ Ok x) → LinesTook page s lines (output ++ text) → IsLine part → 1048576 + 1 < length part → t.explainer.task ≡ s.explainer.task → t.line ≡ s.line + 1 → t.lines.items ≡ s.lines.items → t.held.items ≡ s.held.items → OnOk done (AddsLine page s.explainer.task s.explainer.seen t.explainer.seen [] ((s.line + 1) ∷ []) text text') → OnOk r ((rest : List ℕ) → IsLine rest → LinesTook page t (lines ++ (part ++ rest) ∷ []) (output ++ text'))
long_ok done (Ok x) page s t lines part output text text' was h l m te next le he a = λ rest r. took_too_long page s t lines part rest output text text' h l m te next le he (on_ok done x _ was a) r
long_ok done (Err e) page s t lines part output text text' was h l m te next le he a = tt

-- what an engine of bytes returns where memory was refused
pub stops : (e : RunFault) (P : RunFault → Type 0) → e ≡ Memory → P Memory → P e
stops e P is h = subst P (sym is) h

pub was_err : {T : Type 0} (done : Result T AllocError) (P : Type 0) → done ≡ Err alloc_error → OnErr done P → P
was_err done P was h = subst (λ z. OnErr z P) was h

pub was_ok : {T E : Type 0} (done : Result T E) (x : T) (P : Type 0) → done ≡ Ok x → OnOk done P → P
was_ok done x P was h = on_ok done x P was h

pub was_value : {T E : Type 0} (done : Result T E) (x : T) (P : T → Type 0) → done ≡ Ok x → IfOk done P → P x
was_value done x P was h = subst (λ z. IfOk z P) was h
