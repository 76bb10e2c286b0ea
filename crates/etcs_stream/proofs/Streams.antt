-- Streams of items, piece by piece.
use Rattle.std.proofs.Common.{◌≡◌, ℕ, zero, suc, ◌+◌, ◌-◌, ◌*◌, ◌<◌, ◌≤◌, Bool, List, [], ◌∷◌, ◌++◌, length, take, drop, Result, Ok, Err, add-zero, refl, sym, ap, subst, ◌∙◌, arith, append_assoc, length-append}
use Rattle.std.proofs.Math.Seq.{take-append-add}
use Rattle.std.proofs.lemmas.List.{append-nil, length-take-le, take-append-drop, take-append-le, take_all, take_at, take_rest}
use Rattle.etcs_bits.specs.Bits.{bits}
use Rattle.etcs_bits.proofs.ByteBits.{bits-append}
use Rattle.etcs_bits.proofs.Positions.{length-bits}
use Rattle.etcs_vars.specs.declared.var.Var.{Var}
use Rattle.etcs_vars.specs.declared.feed.Fed.{Fed}
use Rattle.etcs_vars.specs.declared.feed.Fed.TheVariants.{More, Done}
use Rattle.etcs_vars.specs.declared.feed.ReadFault.{ReadFault}
use Rattle.etcs_vars.specs.declared.feed.ReadFault.TheVariants.{Refused}
use Rattle.etcs_vars.specs.Reading.{spelled, NoneYet, Viable}
use Rattle.etcs_vars.specs.Walking.{Refuses}
use Rattle.etcs_text.specs.declared.entry.Kind.{Kind}
use Rattle.etcs_stream.specs.declared.job.Command.{Command}
use Rattle.etcs_text.specs.Entries.{EntryValue}
use Rattle.etcs_stream.specs.Reported.{Reported}
use Rattle.etcs_stream.specs.Printers.{OutputsItem}
use Rattle.etcs_runs.specs.declared.fault.RunFault.{RunFault}
use Rattle.etcs_text.specs.Readers.{ReaderValue, Progress, Feeds, seen_bits, reading}
use Rattle.etcs_stream.specs.Readers.{Awaits}
use Rattle.etcs_stream.specs.Streams.{AreSpelled}
use Rattle.etcs_stream.specs.Taking.{Advances, Halts, HaltsBy}
use Rattle.etcs_text.proofs.ItemKinds.{Language, item_bits, some_item}
use Rattle.etcs_stream.proofs.OutputLemmas.{outputs_append, outputs_count, outputs_one}

-- the bits of the first k bytes
take-bits : (k : ℕ) (bytes : List ℕ) → k ≤ length bytes → take (8 * k) (bits bytes) ≡ bits (take k bytes)
take-bits k bytes h =
    ap (λ (z : List Bool). take (8 * k) z) (ap bits (sym (take-append-drop k bytes)) ∙ bits-append (take k bytes) (drop k bytes))
    ∙ take_at (bits (take k bytes)) (bits (drop k bytes)) (8 * k) (length-bits (take k bytes) ∙ ap (λ n. 8 * n) (length-take-le k bytes h))

pub AreSpelled-append : (kind : Kind) (ts us : List EntryValue) (a b : List Bool) → AreSpelled kind ts a → AreSpelled kind us b → AreSpelled kind (ts ++ us) (a ++ b)
AreSpelled-append kind [] us a b h g = subst (AreSpelled kind us) (sym (ap (λ (t : List Bool). t ++ b) h)) g
AreSpelled-append kind (t ∷ ts) us a b h g =
    (h.0, h.1 ++ b, h.2, ap (λ (z : List Bool). z ++ b) h.3 ∙ append_assoc (spelled h.0) h.1 b, AreSpelled-append kind ts us h.1 b h.4 g)

-- no item is spelled by no bits
pub nothing_is_spelled : (kind : Kind) → NoneYet (Language kind) []
nothing_is_spelled kind zero h (r, l, e) =
    absurd (omega (arith, item_bits kind r l, ap (λ (b : List Bool). length b) e))
nothing_is_spelled kind (suc k) h w = absurd (omega arith)

-- and there is one
begun : (kind : Kind) → Viable (Language kind) []
begun kind = let (r, l) = some_item kind in (r, spelled r, l, refl)

-- a reader that has seen nothing
pub Awaits-fresh : (kind : Kind) (r : ReaderValue) → r ≡ record { kind = kind; progress = reading [] } → Awaits kind r
Awaits-fresh kind r h =
    let fresh : ReaderValue = record { kind = kind; progress = reading [] } in
    let a : Awaits kind fresh = record { kind_is = refl; progress_is = refl; unfinished = nothing_is_spelled kind; viable = begun kind } in
    subst (Awaits kind) (sym h) a

-- ---- one piece after another

pub Advances-none : (kind : Kind) (c : Command) (seen : List Bool) (s : Reported) (text : List ℕ) → Advances kind c seen seen s s [] text text
unfolding bits
Advances-none kind c seen s text = record { reported = []; spelt = []; added = []; are_spelled = refl; bits_are = append-nil seen; added_is = (refl, refl); text_is = sym (append-nil text) }

after_bits : (a b c p q : List Bool) (xs ys : List ℕ) → a ++ bits xs ≡ p ++ b → b ++ bits ys ≡ q ++ c → a ++ bits (xs ++ ys) ≡ (p ++ q) ++ c
after_bits a b c p q xs ys h g =
    ap (λ (z : List Bool). a ++ z) (bits-append xs ys)
    ∙ sym (append_assoc a (bits xs) (bits ys))
    ∙ ap (λ (z : List Bool). z ++ bits ys) h
    ∙ append_assoc p b (bits ys)
    ∙ ap (λ (z : List Bool). p ++ z) g
    ∙ sym (append_assoc p q c)

after_text : (s t u x y : List ℕ) → t ≡ s ++ x → u ≡ t ++ y → u ≡ s ++ (x ++ y)
after_text s t u x y h g = g ∙ ap (λ (z : List ℕ). z ++ y) h ∙ append_assoc s x y

module _ (kind : Kind) (command : Command) (a b : List Bool) (i j : Reported) (xs ys s t u : List ℕ) (h : Advances kind command a b i j xs s t) where
  pub Advances-then : (c : List Bool) (k : Reported) → Advances kind command b c j k ys t u → Advances kind command a c i k (xs ++ ys) s u
  Advances-then c k g = record {
    reported = h.reported ++ g.reported;
    spelt = h.spelt ++ g.spelt;
    added = h.added ++ g.added;
    are_spelled = AreSpelled-append kind h.reported g.reported h.spelt g.spelt h.are_spelled g.are_spelled;
    bits_are = after_bits a b c h.spelt g.spelt xs ys h.bits_are g.bits_are;
    added_is = outputs_append command i j k h.reported g.reported h.added g.added h.added_is g.added_is;
    text_is = after_text s t u h.added g.added h.text_is g.text_is;
  }

  pub Halts-then : (fault : RunFault) → Halts kind command b j ys t u fault → Halts kind command a i (xs ++ ys) s u fault
  Halts-then fault g =
      let all : j.count + length g.reported ≡ i.count + length (h.reported ++ g.reported) = omega (arith, outputs_count command i h.reported h.added j h.added_is, length-append h.reported g.reported) in
      record {
        reported = h.reported ++ g.reported;
        spelt = h.spelt ++ g.spelt;
        rest = g.rest;
        added = h.added ++ g.added;
        are_spelled = AreSpelled-append kind h.reported g.reported h.spelt g.spelt h.are_spelled g.are_spelled;
        bits_are = after_bits a b g.rest h.spelt g.spelt xs ys h.bits_are g.bits_are;
        few = omega (arith, all, g.few);
        after = g.after;
        added_is = outputs_append command i j g.after h.reported g.reported h.added g.added h.added_is g.added_is;
        text_is = after_text s t u h.added g.added h.text_is g.text_is;
        why = subst (λ n. HaltsBy kind n g.rest fault) all g.why;
      }

-- it halts before any item is whole
pub Halts-here : (kind : Kind) (c : Command) (seen : List Bool) (s : Reported) (bytes text text' : List ℕ) (fault : RunFault) → s.count ≤ 1000000 → text' ≡ text → HaltsBy kind s.count (seen ++ bits bytes) fault → Halts kind c seen s bytes text text' fault
Halts-here kind c seen s bytes text text' fault few same why = record {
  reported = [];
  spelt = [];
  rest = seen ++ bits bytes;
  added = [];
  are_spelled = refl;
  bits_are = refl;
  after = s;
  few = omega arith;
  added_is = (refl, refl);
  text_is = same ∙ sym (append-nil text);
  why = subst (λ n. HaltsBy kind n (seen ++ bits bytes) fault) (sym (add-zero s.count)) why;
}

-- one more front is taken off
pub cut_front : (bytes front rest : List ℕ) (n m : ℕ) → m ≡ length rest → bytes ≡ front ++ rest → bytes ≡ (front ++ take n rest) ++ take (m - n) (drop n rest)
cut_front bytes front rest n m e h =
    h
    ∙ ap (λ (z : List ℕ). front ++ z) (sym (take-append-drop n rest))
    ∙ sym (append_assoc front (take n rest) (drop n rest))
    ∙ ap (λ (z : List ℕ). (front ++ take n rest) ++ z) (sym (ap (λ k. take (k - n) (drop n rest)) e ∙ take_rest rest n))

-- ---- what a feed of the reader brings

-- its answer, where it waits for bits
pub fed : (kind : Kind) (r : ReaderValue) (new : List Bool) (answer wanted : Result Fed ReadFault) (after : Progress) → Awaits kind r → answer ≡ wanted → ((seen : List Bool) → r.progress ≡ reading seen → Feeds r.kind seen new answer after) → Feeds kind (seen_bits r.progress) new wanted after
fed kind r new answer wanted after h is f =
    subst (λ z. Feeds z (seen_bits r.progress) new wanted after) h.kind_is
    (subst (λ z. Feeds r.kind (seen_bits r.progress) new z after) is (f (seen_bits r.progress) h.progress_is))

pub more_awaits : (kind : Kind) (seen new : List Bool) (r : ReaderValue) → r.kind ≡ kind → Feeds kind seen new (Ok More) r.progress → Awaits kind r
more_awaits kind seen new r e f =
    let all : seen_bits r.progress ≡ seen ++ new = ap seen_bits f.0 in
    record {
      kind_is = e;
      progress_is = f.0 ∙ ap reading (sym all);
      unfinished = subst (λ z. NoneYet (Language kind) z) (sym all) f.1.0;
      viable = subst (λ z. Viable (Language kind) z) (sym all) f.1.1;
    }

pub more_advances : (kind : Kind) (c : Command) (seen : List Bool) (bytes : List ℕ) (s : Progress) (reported : Reported) (text : List ℕ) → Feeds kind seen (bits bytes) (Ok More) s → Advances kind c seen (seen_bits s) reported reported (take (length bytes) bytes) text text
more_advances kind c seen bytes s reported text f =
    record {
      reported = [];
      spelt = [];
      added = [];
      are_spelled = refl;
      bits_are = ap (λ (z : List ℕ). seen ++ bits z) (take_all (length bytes) bytes (omega arith)) ∙ sym (ap seen_bits f.0);
      added_is = (refl, refl);
      text_is = sym (append-nil text);
    }

pub done_takes : (kind : Kind) (seen new : List Bool) (k : ℕ) (s : Progress) → NoneYet (Language kind) seen → Feeds kind seen new (Ok (Done k)) s → 0 < k
done_takes kind seen new zero s none f =
    let e : length seen + 8 * 0 ≡ length seen = omega arith in
    let front : take (length seen + 8 * 0) (seen ++ new) ≡ take (length seen) seen = ap (λ n. take n (seen ++ new)) e ∙ take-append-le (length seen) seen new (omega arith) in
    absurd (none (length seen) (omega arith) (f.4.1, (f.0, f.4.2), f.4.3 ∙ front))
done_takes kind seen new (suc k) s none f = omega arith

pub done_within : (kind : Kind) (seen : List Bool) (bytes : List ℕ) (k : ℕ) (s : Progress) → Feeds kind seen (bits bytes) (Ok (Done k)) s → k ≤ length bytes
done_within kind seen bytes k s f = omega (arith, f.3, length-bits bytes)

-- the bits that spell the item
done_bits : (kind : Kind) (seen : List Bool) (bytes : List ℕ) (k : ℕ) (s : Progress) (f : Feeds kind seen (bits bytes) (Ok (Done k)) s) → seen ++ bits (take k bytes) ≡ spelled f.4.1
done_bits kind seen bytes k s f =
    ap (λ (z : List Bool). seen ++ z) (sym (take-bits k bytes (done_within kind seen bytes k s f)))
    ∙ sym (take-append-add seen (bits bytes) (8 * k))
    ∙ sym f.4.3

pub done_advances : (kind : Kind) (c : Command) (seen seen' : List Bool) (bytes : List ℕ) (k : ℕ) (s : Progress) (i j : Reported) (t u : List ℕ) (f : Feeds kind seen (bits bytes) (Ok (Done k)) s) → seen' ≡ [] → (added : List ℕ) × OutputsItem c f.0 i added j × (u ≡ t ++ added) → Advances kind c seen seen' i j (take k bytes) t u
done_advances kind c seen seen' bytes k s i j t u f none text =
    record {
      reported = f.0 ∷ [];
      spelt = spelled f.4.1;
      added = text.0;
      are_spelled = (f.4.1, [], f.4.2, sym (append-nil (spelled f.4.1)), refl);
      bits_are = done_bits kind seen bytes k s f ∙ sym (append-nil (spelled f.4.1)) ∙ ap (λ (z : List Bool). spelled f.4.1 ++ z) (sym none);
      added_is = outputs_one c i j f.0 text.0 text.1;
      text_is = text.2;
    }

pub feed_refuses : (kind : Kind) (seen new : List Bool) (i : ℕ) (x : Var) (s : Progress) → Feeds kind seen new (Err (Refused i x)) s → Refuses (Language kind) (seen ++ new) i x
feed_refuses kind seen new i x s f = record { within = f.1.0.1; owned = f.1.1; blocked = f.1.0.2 }
