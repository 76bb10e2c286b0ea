-- Lines are items of JSON in one way.
use Rattle.std.proofs.Common.{◌≡◌, ℕ, ◌+◌, ◌<◌, ◌≤◌, List, [], ◌∷◌, ◌++◌, map, length, refl, sym, ap, ap₂, subst, ◌∙◌, arith, append_assoc, length-append, inl, inr}
use Rattle.std.specs.Prelude.{◌⊎◌, All}
use Rattle.std.proofs.lemmas.List.{append-nil, map-append}
use Rattle.std.proofs.lemmas.List.Elements.{All-head}
use Rattle.etcs_vars.specs.declared.var.Var.{Var}
use Rattle.etcs_text.specs.declared.entry.Kind.{Kind}
use Rattle.etcs_text.specs.Entries.{EntryValue}
use Rattle.etcs_json.proofs.OneStored.{line_said, line_refused, line_not_both}
use Rattle.etcs_runs.specs.Lines.{IsLine, strip_cr, lines_text}
use Rattle.etcs_stream.specs.JsonItems.{IsItemLine, IsRefusedLine, AreItemLines, JsonFront, BeginsWith, WholeJson, EndedJson, FirstJson, FurtherLine}
use Rattle.etcs_stream.specs.Inputs.{End, ended, refused, truncated, bad_hex, bad_json, endless, JsonItems}
use Rattle.etcs_runs.proofs.LineTexts.{cut_lf, first_of}
use Rattle.etcs_stream.proofs.OneLines.{Longer, fronts, has_lf}

-- ---- One line.

one_item : (kind : Kind) (line : List ℕ) (e f : EntryValue) → IsItemLine kind line e → IsItemLine kind line f → e ≡ f
one_item kind line e f (some, short, says) (some', short', says') = line_said kind line e f says says'

not_empty : (kind : Kind) (line : List ℕ) (e : EntryValue) → line ≡ [] → IsItemLine kind line e → ⊥
not_empty kind line e empty h = omega (arith, ap (λ (z : List ℕ). length z) empty, h.0)

-- two lists of lines that begin with one line: its items, and those after it
record Heads (kind : Kind) (lines lines' : List (List ℕ)) (es es' : List EntryValue) : Type 0 where
  first : List EntryValue
  beyond : List EntryValue
  beyond' : List EntryValue
  items_are : es ≡ first ++ beyond
  items_are' : es' ≡ first ++ beyond'
  are_items : AreItemLines kind lines beyond
  are_items' : AreItemLines kind lines' beyond'

heads : (kind : Kind) (line : List ℕ) (lines lines' : List (List ℕ)) (es es' : List EntryValue) → AreItemLines kind (line ∷ lines) es → AreItemLines kind (line ∷ lines') es' → Heads kind lines lines' es es'
heads kind line lines lines' es es' (inl (empty, h)) (inl (empty', k)) =
    record { first = []; beyond = es; beyond' = es'; items_are = refl; items_are' = refl; are_items = h; are_items' = k }
heads kind line lines lines' es es' (inl (empty, h)) (inr (f, fs, is, item, k)) = absurd (not_empty kind line f empty item)
heads kind line lines lines' es es' (inr (e, more, is, item, h)) (inl (empty, k)) = absurd (not_empty kind line e empty item)
heads kind line lines lines' es es' (inr (e, more, is, item, h)) (inr (f, fs, is', item', k)) =
    let same = one_item kind line f e item' item in
    record {
      first = e ∷ [];
      beyond = more;
      beyond' = fs;
      items_are = is;
      items_are' = is' ∙ ap (λ (z : EntryValue). z ∷ fs) same;
      are_items = h;
      are_items' = k;
    }

-- ---- Lines one after another.

-- lines that begin with those of some items are those items and more
items_after : (kind : Kind) (lines more : List (List ℕ)) (es es' : List EntryValue) → AreItemLines kind lines es → AreItemLines kind (lines ++ more) es' → (items : List EntryValue) × (es' ≡ es ++ items) × AreItemLines kind more items
items_after kind [] more es es' h k = (es', ap (λ (z : List EntryValue). z ++ es') (sym h), k)
items_after kind (line ∷ lines) more es es' h k =
    let s = heads kind line lines (lines ++ more) es es' h k in
    let (items, is, are) = items_after kind lines more s.beyond s.beyond' s.are_items s.are_items' in (
      items,
      s.items_are'
          ∙ ap (λ (z : List EntryValue). s.first ++ z) is
          ∙ sym (append_assoc s.first s.beyond items)
          ∙ ap (λ (z : List EntryValue). z ++ items) (sym s.items_are),
      are,
    )

same_last : (kind : Kind) (line : List ℕ) (es es' : List EntryValue) → AreItemLines kind (line ∷ []) es → AreItemLines kind (line ∷ []) es' → es ≡ es'
same_last kind line es es' h k =
    let (items, is, none) = items_after kind (line ∷ []) [] es es' h k in
    sym (is ∙ ap (λ (z : List EntryValue). es ++ z) none ∙ append-nil es)

-- lines at the front of a text, their items, and what is after them
record Front (kind : Kind) (text : List ℕ) : Type 0 where
  items : List EntryValue
  lines : List (List ℕ)
  rest : List ℕ
  are : JsonFront kind text items lines rest

-- the lines and the items of one are the first of the other
record Ahead (kind : Kind) (text : List ℕ) (f g : Front kind text) : Type 0 where
  lines : Longer f.lines g.lines f.rest g.rest
  items : List EntryValue
  items_are : g.items ≡ f.items ++ items
  are_items : AreItemLines kind (map strip_cr lines.more) items

ahead : (kind : Kind) (text : List ℕ) (f g : Front kind text) → Longer f.lines g.lines f.rest g.rest → Ahead kind text f g
ahead kind text f g l =
    let lines : map strip_cr g.lines ≡ map strip_cr f.lines ++ map strip_cr l.more =
    ap (λ (z : List (List ℕ)). map strip_cr z) l.lines_are ∙ map-append strip_cr f.lines l.more in
    let there = subst (λ (z : List (List ℕ)). AreItemLines kind z g.items) lines g.are.are_items in
    let (items, is, are) = items_after kind (map strip_cr f.lines) (map strip_cr l.more) f.items g.items f.are.are_items there in
    record { lines = l; items = items; items_are = is; are_items = are }

one_ahead : (kind : Kind) (text : List ℕ) (f g : Front kind text) → Ahead kind text f g ⊎ Ahead kind text g f
one_ahead kind text f g = elim (fronts f.lines g.lines f.rest g.rest f.are.are_lines g.are.are_lines (sym f.are.text_is ∙ g.are.text_is)) [
  | inl l ↦ inl (ahead kind text f g l)
  | inr l ↦ inr (ahead kind text g f l)
]

-- ---- No line after them.

-- after this many items no line with a LF follows that is empty or one more item
NoFurther : Kind → ℕ → List ℕ → Type 0
NoFurther kind n rest = (line beyond : List ℕ) → IsLine line → rest ≡ line ++ 10 ∷ beyond → (strip_cr line ≡ [] → ⊥) × ((e : EntryValue) → n < 1000000 → IsItemLine kind (strip_cr line) e → ⊥)

without_lf : (kind : Kind) (n : ℕ) (rest : List ℕ) → IsLine rest → NoFurther kind n rest
unfolding NoFurther
without_lf kind n rest h line beyond l is = absurd (has_lf rest line beyond h is)

begins_once : (rest line line' : List ℕ) → BeginsWith rest line → BeginsWith rest line' → line ≡ line'
begins_once rest line line' (inl (raw, beyond, l, is, cut)) (inl (raw', beyond', l', is', cut')) =
    cut ∙ ap (λ (z : List ℕ). strip_cr z) (cut_lf raw raw' beyond beyond' l l' (sym is ∙ is')).0 ∙ sym cut'
begins_once rest line line' (inl (raw, beyond, l, is, cut)) (inr (l', is')) = absurd (has_lf rest raw beyond l' is)
begins_once rest line line' (inr (l, is)) (inl (raw, beyond, l', is', cut)) = absurd (has_lf rest raw beyond l is')
begins_once rest line line' (inr (l, is)) (inr (l', is')) = is ∙ sym is'

-- the line there isn't one more
no_item : (kind : Kind) (n : ℕ) (rest line : List ℕ) → BeginsWith rest line → 0 < length line → ((e : EntryValue) → n < 1000000 → IsItemLine kind line e → ⊥) → NoFurther kind n rest
unfolding NoFurther
no_item kind n rest line begins some none raw beyond l is =
    let same : line ≡ strip_cr raw = begins_once rest line (strip_cr raw) begins (inl (raw, beyond, l, is, refl)) in (
      λ empty. omega (arith, some, ap (λ (z : List ℕ). length z) same, ap (λ (z : List ℕ). length z) empty),
      λ e few item. none e few (subst (λ (z : List ℕ). IsItemLine kind z e) (sym same) item),
    )

none_more : (kind : Kind) (n : ℕ) (more : List (List ℕ)) (items : List EntryValue) (rest rest' : List ℕ) → All IsLine more → AreItemLines kind (map strip_cr more) items → NoFurther kind n rest → n + length items ≤ 1000000 → rest ≡ lines_text more ++ rest' → (more ≡ []) × (items ≡ [])
unfolding NoFurther
none_more kind n [] items rest rest' l h none few is = (refl, h)
none_more kind n (line ∷ more) items rest rest' l (inl (empty, h)) none few is =
    absurd ((none line (lines_text more ++ rest') (All-head IsLine line more l) (is ∙ first_of line more rest')).0 empty)
none_more kind n (line ∷ more) items rest rest' l (inr (e, beyond, are, item, h)) none few is =
    let fewer : n < 1000000 = omega (arith, few, ap (λ (z : List EntryValue). length z) are) in
    absurd ((none line (lines_text more ++ rest') (All-head IsLine line more l) (is ∙ first_of line more rest')).1 e fewer item)

abbrev Same : (kind : Kind) (text : List ℕ) → Front kind text → Front kind text → Type 0
Same kind text f g = (f.items ≡ g.items) × (f.lines ≡ g.lines) × (f.rest ≡ g.rest)

stays : (kind : Kind) (text : List ℕ) (f g : Front kind text) → Ahead kind text f g → NoFurther kind (length f.items) f.rest → Same kind text f g
stays kind text f g a none =
    let count : length f.items + length a.items ≤ 1000000 =
    omega (arith, g.are.few, ap (λ (z : List EntryValue). length z) a.items_are, length-append f.items a.items) in
    let no = none_more kind (length f.items) a.lines.more a.items f.rest g.rest a.lines.are_lines a.are_items none count a.lines.text_is in (
      sym (a.items_are ∙ ap (λ (z : List EntryValue). f.items ++ z) no.1 ∙ append-nil f.items),
      sym (a.lines.lines_are ∙ ap (λ (z : List (List ℕ)). f.lines ++ z) no.0 ∙ append-nil f.lines),
      a.lines.text_is ∙ ap (λ (z : List (List ℕ)). lines_text z ++ g.rest) no.0,
    )

same_front : (kind : Kind) (text : List ℕ) (f g : Front kind text) → NoFurther kind (length f.items) f.rest → NoFurther kind (length g.items) g.rest → Same kind text f g
same_front kind text f g none none' = elim (one_ahead kind text f g) [
  | inl a ↦ stays kind text f g a none
  | inr a ↦ let s = stays kind text g f a none' in (sym s.0, sym s.1, sym s.2)
]

-- ---- One end.

abbrev ended_front : (kind : Kind) (text : List ℕ) (es : List EntryValue) → EndedJson kind text es → Front kind text
ended_front kind text es h = record { items = h.front; lines = h.lines; rest = h.last; are = h.lines_are }

-- why a line that isn't empty isn't one more item, after this many lines and items
data StopsAs (kind : Kind) (lines : List (List ℕ)) (line : List ℕ) (n : ℕ) (end : End) : Type 0 where
  as_bad : n < 1000000 → end ≡ bad_json (length lines + 1) → ((i : ℕ) (x : Var) → IsRefusedLine kind line i x → ⊥) → StopsAs kind lines line n end
  as_refused : (i : ℕ) (x : Var) → n < 1000000 → end ≡ refused i x → IsRefusedLine kind line i x → StopsAs kind lines line n end
  as_endless : n ≡ 1000000 → end ≡ endless → StopsAs kind lines line n end

-- a line after the items that isn't one more
record Stop (kind : Kind) (text : List ℕ) (es : List EntryValue) (end : End) : Type 0 where
  lines : List (List ℕ)
  line : List ℕ
  there : FurtherLine kind text es lines line
  no_more : (e : EntryValue) → length es < 1000000 → IsItemLine kind line e → ⊥
  stops : StopsAs kind lines line (length es) end

abbrev stop_front : (kind : Kind) (text : List ℕ) (es : List EntryValue) (end : End) → Stop kind text es end → Front kind text
stop_front kind text es end h = record { items = es; lines = h.lines; rest = h.there.rest; are = h.there.front }

ended_or_stop : (kind : Kind) (text : List ℕ) (es : List EntryValue) (end : End) → JsonItems kind text es end → (EndedJson kind text es × (end ≡ ended)) ⊎ Stop kind text es end
ended_or_stop kind text es ended h = inl (h, refl)
ended_or_stop kind text es (refused i x) (lines, line, there, few, why) =
    inr (record {
      lines = lines;
      line = line;
      there = there;
      no_more = λ e fewer item. line_not_both kind line e i x item.2 why.2;
      stops = as_refused i x few refl why;
    })
ended_or_stop kind text es (truncated k) h = absurd h
ended_or_stop kind text es (bad_hex line place) h = absurd h
ended_or_stop kind text es (bad_json number) (lines, line, there, number_is, few, none, unrefused) =
    inr (record {
      lines = lines;
      line = line;
      there = there;
      no_more = λ e fewer item. none e item;
      stops = as_bad few (ap bad_json number_is) unrefused;
    })
ended_or_stop kind text es endless (lines, line, there, most) =
    inr (record { lines = lines; line = line; there = there; no_more = λ e fewer item. omega (arith, fewer, most); stops = as_endless most refl })

ended_stands : (kind : Kind) (text : List ℕ) (es : List EntryValue) (h : EndedJson kind text es) → NoFurther kind (length h.front) h.last
ended_stands kind text es h = without_lf kind (length h.front) h.last h.is_line

stop_stands : (kind : Kind) (text : List ℕ) (es : List EntryValue) (end : End) (h : Stop kind text es end) → NoFurther kind (length es) h.there.rest
stop_stands kind text es end h = no_item kind (length es) h.there.rest h.line h.there.begins h.there.some h.no_more

ended_once : (kind : Kind) (text : List ℕ) (es es' : List EntryValue) → EndedJson kind text es → EndedJson kind text es' → es ≡ es'
ended_once kind text es es' h k =
    let same = same_front kind text (ended_front kind text es h) (ended_front kind text es' k) (ended_stands kind text es h) (ended_stands kind text es' k) in
    let there : AreItemLines kind (h.last ∷ []) k.beyond = subst (λ (z : List ℕ). AreItemLines kind (z ∷ []) k.beyond) (sym same.2) k.last_is in
    h.items_are
    ∙ ap (λ (z : List EntryValue). z ++ h.beyond) same.0
    ∙ ap (λ (z : List EntryValue). k.front ++ z) (same_last kind h.last h.beyond k.beyond h.last_is there)
    ∙ sym k.items_are

ended_or_line : (kind : Kind) (text : List ℕ) (es es' : List EntryValue) (end : End) → EndedJson kind text es → Stop kind text es' end → ⊥
ended_or_line kind text es es' end h k =
    let same = same_front kind text (ended_front kind text es h) (stop_front kind text es' end k) (ended_stands kind text es h) (stop_stands kind text es' end k) in
    let begins : BeginsWith h.last k.line = subst (λ (z : List ℕ). BeginsWith z k.line) (sym same.2) k.there.begins in
    let is : k.line ≡ h.last = begins_once h.last k.line h.last begins (inr (h.is_line, refl)) in
    let size = λ (z : List EntryValue). length z in
    elim h.last_is [
      | inl (empty, none) ↦ omega (arith, k.there.some, ap (λ (z : List ℕ). length z) is, ap (λ (z : List ℕ). length z) empty)
      | inr (e, more, are, item, none) ↦
          let few : length es' < 1000000 = omega (arith, h.few, ap size h.items_are, length-append h.front h.beyond, ap size are, ap size same.0) in
          k.no_more e few (subst (λ (z : List ℕ). IsItemLine kind z e) (sym is) item)
    ]

one_stop : (kind : Kind) (lines lines' : List (List ℕ)) (line line' : List ℕ) (n m : ℕ) (end end' : End) → n ≡ m → lines ≡ lines' → line ≡ line' → StopsAs kind lines line n end → StopsAs kind lines' line' m end' → end ≡ end'
one_stop kind lines lines' line line' n m end end' e same l (as_bad few is none) (as_bad few' is' none') =
    is ∙ ap (λ (z : List (List ℕ)). bad_json (length z + 1)) same ∙ sym is'
one_stop kind lines lines' line line' n m end end' e same l (as_bad few is none) (as_refused j y few' is' why) =
    absurd (none j y (subst (λ (z : List ℕ). IsRefusedLine kind z j y) (sym l) why))
one_stop kind lines lines' line line' n m end end' e same l (as_bad few is none) (as_endless most is') = absurd (omega (arith, few, most, e))
one_stop kind lines lines' line line' n m end end' e same l (as_refused i x few is why) (as_bad few' is' none) =
    absurd (none i x (subst (λ (z : List ℕ). IsRefusedLine kind z i x) l why))
one_stop kind lines lines' line line' n m end end' e same l (as_refused i x few is why) (as_refused j y few' is' why') =
    let there = subst (λ (z : List ℕ). IsRefusedLine kind z j y) (sym l) why' in
    let one = line_refused kind line i j x y why.2 there.2 in
    is ∙ ap₂ (λ (k : ℕ) (v : Var). refused k v) one.0 one.1 ∙ sym is'
one_stop kind lines lines' line line' n m end end' e same l (as_refused i x few is why) (as_endless most is') = absurd (omega (arith, few, most, e))
one_stop kind lines lines' line line' n m end end' e same l (as_endless most is) (as_bad few is' none) = absurd (omega (arith, few, most, e))
one_stop kind lines lines' line line' n m end end' e same l (as_endless most is) (as_refused j y few is' why) = absurd (omega (arith, few, most, e))
one_stop kind lines lines' line line' n m end end' e same l (as_endless most is) (as_endless most' is') = is ∙ sym is'

stop_once : (kind : Kind) (text : List ℕ) (es es' : List EntryValue) (end end' : End) → Stop kind text es end → Stop kind text es' end' → (es ≡ es') × (end ≡ end')
stop_once kind text es es' end end' h k =
    let same = same_front kind text (stop_front kind text es end h) (stop_front kind text es' end' k) (stop_stands kind text es end h) (stop_stands kind text es' end' k) in
    let count : length es ≡ length es' = ap (λ (z : List EntryValue). length z) same.0 in
    let line : h.line ≡ k.line = begins_once h.there.rest h.line k.line h.there.begins (subst (λ (z : List ℕ). BeginsWith z k.line) (sym same.2) k.there.begins) in
    (same.0, one_stop kind h.lines k.lines h.line k.line (length es) (length es') end end' count same.1 line h.stops k.stops)

pub one_json : (kind : Kind) (text : List ℕ) (es es' : List EntryValue) (end end' : End) → JsonItems kind text es end → JsonItems kind text es' end' → (es ≡ es') × (end ≡ end')
one_json kind text es es' end end' h k =
    by_end (ended_or_stop kind text es end h) (ended_or_stop kind text es' end' k)
  where
    by_end : (EndedJson kind text es × (end ≡ ended)) ⊎ Stop kind text es end → (EndedJson kind text es' × (end' ≡ ended)) ⊎ Stop kind text es' end' → (es ≡ es') × (end ≡ end')
    by_end (inl (a, is)) (inl (b, is')) = (ended_once kind text es es' a b, is ∙ sym is')
    by_end (inl (a, is)) (inr b) = absurd (ended_or_line kind text es es' end' a b)
    by_end (inr a) (inl (b, is)) = absurd (ended_or_line kind text es' es end b a)
    by_end (inr a) (inr b) = stop_once kind text es es' end end' a b

-- ---- A part of an input.

pub one_whole_json : (kind : Kind) (given : List ℕ) (es es' : List EntryValue) → WholeJson kind given es → WholeJson kind given es' → es ≡ es'
one_whole_json kind given es es' (lines, rest, are, l) (lines', rest', are', l') =
    let f : Front kind given = record { items = es; lines = lines; rest = rest; are = are } in
    let g : Front kind given = record { items = es'; lines = lines'; rest = rest'; are = are' } in
    (same_front kind given f g (without_lf kind (length es) rest l) (without_lf kind (length es') rest' l')).0

-- the items of the lines that have a LF, and those after them
record Final (kind : Kind) (text : List ℕ) (es : List EntryValue) : Type 0 where
  front : Front kind text
  stands : NoFurther kind (length front.items) front.rest
  beyond : List EntryValue
  items_are : es ≡ front.items ++ beyond

final_of : (kind : Kind) (text : List ℕ) (es : List EntryValue) (end : End) → (EndedJson kind text es × (end ≡ ended)) ⊎ Stop kind text es end → Final kind text es
final_of kind text es end (inl (h, is)) =
    record { front = ended_front kind text es h; stands = ended_stands kind text es h; beyond = h.beyond; items_are = h.items_are }
final_of kind text es end (inr h) =
    record { front = stop_front kind text es end h; stands = stop_stands kind text es end h; beyond = []; items_are = sym (append-nil es) }

pub front_json : (kind : Kind) (text : List ℕ) (es es' : List EntryValue) (end : End) → FirstJson kind text es → JsonItems kind text es' end → (beyond : List EntryValue) × (es' ≡ es ++ beyond)
front_json kind text es es' end (inl (lines, rest, are)) k =
    let f : Front kind text = record { items = es; lines = lines; rest = rest; are = are } in
    let l = final_of kind text es' end (ended_or_stop kind text es' end k) in
    let tail = λ (z : List EntryValue). z ++ l.beyond in
    elim (one_ahead kind text f l.front) [
      | inl a ↦ (a.items ++ l.beyond, l.items_are ∙ ap tail a.items_are ∙ append_assoc es a.items l.beyond)
      | inr a ↦ (l.beyond, l.items_are ∙ ap tail (stays kind text l.front f a l.stands).0)
    ]
front_json kind text es es' end (inr h) k =
    ([], sym (one_json kind text es es' ended end h k).0 ∙ sym (append-nil es))
