-- What the calls of C write to the caller's buffer: `old` and `new` are the buffer before and after the call, s its
-- status and a its answer.
use Rattle.std.specs.Prelude.{◌≡◌, ℕ, ◌<◌, ◌≤◌, ◌⊎◌, List, ◌++◌, length, drop, replicate}
use Rattle.etcs_vars.specs.declared.var.Var.{Var}
use Rattle.etcs_vars.specs.Vars.{name}
use Rattle.etcs_c.specs.declared.answer.EtcsAnswer.{EtcsAnswer}

-- the name of a variable in 32 bytes, zeros after it
abbrev pub name_field : Var → List ℕ
name_field x = name x ++ drop (length (name x)) (replicate 32 0)

-- `written` is how many items there are; they are at the front of the buffer, what follows is as before, and the status
-- is this one; or the buffer has no room for them and is as before, and the status is 3
abbrev pub WritesAs : {A : Type 0} → ℕ → List A → List A → List A → ℕ → EtcsAnswer → Type 0
WritesAs status items old new s a = (a.written ≡ length items) × (((length items ≤ length old) × (s ≡ status) × (new ≡ items ++ drop (length items) old)) ⊎ ((length old < length items) × (s ≡ 3) × (new ≡ old)))

-- the same with the status 0
abbrev pub Writes : {A : Type 0} → List A → List A → List A → ℕ → EtcsAnswer → Type 0
Writes items old new s a = WritesAs 0 items old new s a

-- out of memory: the status is 4, and the buffer is as before
abbrev pub Starves : {A : Type 0} → List A → List A → ℕ → Type 0
Starves old new s = (s ≡ 4) × (new ≡ old)
