-- A message that lies whole in a piece, read at once.
use Rattle.std.proofs.Common.{◌≡◌, ℕ, ◌+◌, ◌-◌, ◌*◌, ◌^◌, ◌<◌, ◌≤◌, Bool, List, [], ◌++◌, length, Some, None, refl, sym, ap, subst, ◌∙◌, arith, append-nil}
use Rattle.std.specs.Prelude.{Option, option_map, take, drop}
use Rattle.etcs_bits.specs.Bits.{num, part}
use Rattle.etcs_bits.proofs.Lists.{length-part, part-add}
use Rattle.etcs_bits.proofs.Numbers.{length-num}
use Rattle.etcs_vars.specs.declared.var.Var.{Var}
use Rattle.etcs_vars.specs.declared.var.Var.TheVariants.{PADDING, OTHER_DATA}
use Rattle.etcs_vars.specs.Reading.{Reading, spelled, kept}
use Rattle.etcs_vars.specs.laws.Spellings.{spelled-append}
use Rattle.etcs_tables.specs.declared.row.Way.{Way}
use Rattle.etcs_rows.specs.declared.frames.Carrier.TheVariants.{Message}
use Rattle.etcs_packets.specs.PacketValues.{PacketValue, Form}
use Rattle.etcs_packets.specs.PacketReadings.{readings_to}
use Rattle.etcs_sequence.specs.declared.list.PacketList.{PacketList}
use Rattle.etcs_sequence.specs.AtOnce.{Holds, RunAt}
use Rattle.etcs_sequence.specs.Contents.{ReadsPackets}
use Rattle.etcs_sequence.specs.Fronts.{FrontAt}
use Rattle.etcs_sequence.specs.Held.{list_holds}
use Rattle.etcs_sequence.specs.Labels.{labelled}
use Rattle.etcs_sequence.specs.laws.BitLaws.{bits_spelled}
use Rattle.etcs_messages.specs.declared.message.Content.{Content}
use Rattle.etcs_messages.specs.declared.message.Content.TheVariants.{Typed, Kept}
use Rattle.etcs_messages.specs.declared.whole.Outline.TheVariants as outline
use Rattle.etcs_messages.specs.Kinds.{HeadOf, OwnOf, HeadLaws, OwnLaws, IsFrontBy}
use Rattle.etcs_tables.specs.Headers.{head_row}
use Rattle.etcs_messages.specs.Lefts.{front_row, front_vars, front_bits, some_row, headed, AfterMessageLength}
use Rattle.etcs_messages.specs.Messages.{MessageValue, kept_message, TypedReads, KeptReads, MessageReads, MessageLanguage, message_value, IsMessage}
use Rattle.etcs_messages.specs.Outlines.{IsOutline}
use Rattle.etcs_messages.specs.Readings.{bytes_of}
use Rattle.etcs_messages.proofs.Bytes.{bits_counted}
use Rattle.etcs_messages.proofs.Faults.{no_kept_fault}
use Rattle.etcs_messages.proofs.RestStart.{new_left}
use Rattle.etcs_messages.proofs.Wholes.{row_none, made_reads, front_reads, typed_is}

-- a message of this many bytes, whose bits are the first of these
pub record ReadAtOnce {H B P : Type 0} (way : Way) (hd : HeadOf H) (bd : OwnOf B) (form : P → Form) (m : Content H B P) (len : ℕ) (xs : List Bool) : Type 0 where
  pub message : IsMessage way hd bd form m
  pub bytes : len ≡ bytes_of way bd form m
  pub reads : (r : Reading) × MessageReads way (message_value way hd bd form m) r × (spelled r ≡ part 0 (8 * len) xs)

-- some message of this many bytes, whose bits are the first of these
abbrev pub SeenAtOnce : Way → ℕ → List Bool → Type 0
SeenAtOnce way len xs = (m : MessageValue) × (r : Reading) × MessageReads way m r × (spelled r ≡ part 0 (8 * len) xs)

-- L_MESSAGE counts its bytes
counted : {H B P : Type 0} (way : Way) (hd : HeadOf H) (bd : OwnOf B) (form : P → Form) (m : Content H B P) (len : ℕ) (xs : List Bool) (r : Reading) → 8 * len ≤ length xs → IsMessage way hd bd form m → MessageReads way (message_value way hd bd form m) r → spelled r ≡ part 0 (8 * len) xs → ReadAtOnce way hd bd form m len xs
counted way hd bd form m len xs r inside is reads e =
    let all = bits_counted way hd bd form m r is reads in
    let long = ap length e ∙ length-part 0 (8 * len) xs (omega (arith, inside)) in
    record { message = is; bytes = omega (arith, all, long); reads = (r, reads, e) }

-- ---- Bits of a piece, one part after another.

pub parts : (at s t all : ℕ) (xs a b : List Bool) → a ≡ part at s xs → b ≡ part (at + s) t xs → s + t ≡ all → a ++ b ≡ part at all xs
parts at s t all xs a b e f same = ap (λ (l : List Bool). l ++ b) e ∙ ap (λ (l : List Bool). part at s xs ++ l) f ∙ sym (part-add at s t xs) ∙ ap (λ k. part at k xs) same

-- NID_MESSAGE, L_MESSAGE and what follows them
headed_bits : (nid len all : ℕ) (r : Reading) (xs : List Bool) → num 8 nid ≡ part 0 8 xs → num 10 len ≡ part 8 10 xs → 18 ≤ all → spelled r ≡ part 18 (all - 18) xs → spelled (headed nid len r) ≡ part 0 all xs
headed_bits nid len all r xs first second some e =
    parts 0 8 (all - 8) all xs (num 8 nid) (num 10 len ++ spelled r) first (parts 8 10 (all - 18) (all - 8) xs (num 10 len) (spelled r) second e (omega (arith, some))) (omega (arith, some))

-- ---- A message that is kept.

-- its bits, and its reading
kept_parts : (way : Way) (nid len : ℕ) (b xs : List Bool) → front_row way nid ≡ None → nid < 2 ^ 8 → 3 ≤ len → len < 2 ^ 10 → 8 * len ≤ length xs → num 8 nid ≡ part 0 8 xs → num 10 len ≡ part 8 10 xs → b ≡ part 18 (8 * len - 18) xs → KeptReads way nid b (headed nid len (kept OTHER_DATA b)) × (spelled (headed nid len (kept OTHER_DATA b)) ≡ part 0 (8 * len) xs)
kept_parts way nid len b xs untyped small least most inside first second e =
    let long : length b ≡ 8 * len - 18 = ap length e ∙ length-part 18 (8 * len - 18) xs (omega (arith, inside, least)) in (
      record { len = len; untyped = row_none way nid untyped; small = small; least = least; most = most; bytes = omega (arith, long, least); reading_is = refl },
      headed_bits nid len (8 * len) (kept OTHER_DATA b) xs first second (omega (arith, least)) (bits_spelled OTHER_DATA b refl ∙ e),
    )

pub kept_at_once : {H B P : Type 0} (way : Way) (hd : HeadOf H) (bd : OwnOf B) (form : P → Form) (nid len : ℕ) (b xs : List Bool) → front_row way nid ≡ None → nid < 2 ^ 8 → 3 ≤ len → len < 2 ^ 10 → 8 * len ≤ length xs → num 8 nid ≡ part 0 8 xs → num 10 len ≡ part 8 10 xs → b ≡ part 18 (8 * len - 18) xs → ReadAtOnce way hd bd form (Kept nid b) len xs
kept_at_once way hd bd form nid len b xs untyped small least most inside first second e =
    let (k, is) = kept_parts way nid len b xs untyped small least most inside first second e in
    counted way hd bd form (Kept nid b) len xs (headed nid len (kept OTHER_DATA b)) inside (small, no_kept_fault way nid (length b) k.len k.untyped k.bytes k.least k.most) k is

pub kept_seen : (way : Way) (nid len : ℕ) (xs : List Bool) → front_row way nid ≡ None → nid < 2 ^ 8 → 3 ≤ len → len < 2 ^ 10 → 8 * len ≤ length xs → num 8 nid ≡ part 0 8 xs → num 10 len ≡ part 8 10 xs → SeenAtOnce way len xs
kept_seen way nid len xs untyped small least most inside first second =
    let b = part 18 (8 * len - 18) xs in
    let (k, is) = kept_parts way nid len b xs untyped small least most inside first second refl in
    (kept_message nid b, headed nid len (kept OTHER_DATA b), k, is)

-- ---- A typed message.

-- a number is typed if a number of bits before its packets is known, and these are its variables' bits
pub typed_front : (o : Option (List Var)) (n : ℕ) → Some n ≡ option_map front_bits o → (vars : List Var) × (o ≡ Some vars) × (n ≡ front_bits vars)
typed_front None n e = absurd cc
typed_front (Some vars) n e = (vars, refl, cc)

pub untyped_front : (o : Option (List Var)) → None ≡ option_map front_bits o → o ≡ None
untyped_front None e = refl
untyped_front (Some vars) e = absurd cc

-- its front, its packets and PADDING, and the bits that they are
record TypedAtOnce (way : Way) (nid len : ℕ) (vars : List Var) (f : List ℕ) (vs : List PacketValue) (pad xs : List Bool) : Type 0 where
  count : length f ≡ length vars
  lang : MessageLanguage way (headed nid len (labelled vars f ++ (readings_to way vs ++ kept PADDING pad)))
  bits : spelled (headed nid len (labelled vars f ++ (readings_to way vs ++ kept PADDING pad))) ≡ part 0 (8 * len) xs

module _ (way : Way) (nid len front left : ℕ) (vars : List Var) (f : List ℕ) (holds : Holds) (pad xs : List Bool) (typed : front_row way nid ≡ Some vars) (small : nid < 2 ^ 8) (most : len < 2 ^ 10) (wide : front ≡ front_bits vars) (within : front ≤ 8 * len) (inside : 8 * len ≤ length xs) (first : num 8 nid ≡ part 0 8 xs) (second : num 10 len ≡ part 8 10 xs) (there : FrontAt (front_vars way nid) xs 18 f (front_bits (front_vars way nid))) (run : RunAt (Message way) (8 * len - front) holds xs front left) (padded : pad ≡ part (8 * len - left) left xs) where
  typed_parts : TypedAtOnce way nid len vars f run.packets pad xs
  typed_parts =
      let here : FrontAt vars xs 18 f (front_bits vars) = subst (λ (o : Option (List Var)). FrontAt (some_row o) xs 18 f (front_bits (some_row o))) typed there in
      let vs = run.packets in
      let p = readings_to way vs in
      let q = p ++ kept PADDING pad in
      let room = 8 * len - front in
      let least : 18 ≤ front = omega (arith, wide) in
      let left_within = run.within in
      let none : p ++ [] ≡ p = append-nil p in
      let whole : ReadsPackets (Message way) (8 * len - front_bits vars) vs p = subst (λ k. ReadsPackets (Message way) (8 * len - k) vs p) wide (subst (λ (r : Reading). ReadsPackets (Message way) room vs r) none run.run) in
      let reads = subst (λ (r : Reading). spelled r ≡ part front (room - left) xs) none run.bits in
      let long : length (spelled p) + left ≡ room = subst (λ (r : Reading). length (spelled r) + left ≡ room) none run.long in
      let own : spelled (labelled vars f) ≡ part 18 (front - 18) xs = here.bits ∙ ap (λ k. part 18 (k - 18) xs) (sym wide) in
      let start : 8 * len - left ≡ front + (room - left) = omega (arith, within, left_within) in
      let last : pad ≡ part (front + (room - left)) left xs = padded ∙ ap (λ k. part k left xs) start in
      let wide_pad : length pad ≡ left = ap length padded ∙ length-part (8 * len - left) left xs (omega (arith, within, left_within, inside)) in
      let beyond : spelled q ≡ part front room xs =
      spelled-append p (kept PADDING pad) ∙ ap (λ (t : List Bool). spelled p ++ t) (bits_spelled PADDING pad refl)
      ∙ parts front (room - left) left room xs (spelled p) pad reads last (omega (arith, left_within)) in
      let next : spelled q ≡ part (18 + (front - 18)) room xs = (let same : front ≡ 18 + (front - 18) = omega (arith, least) in beyond ∙ ap (λ k. part k room xs) same) in
      let all : spelled (labelled vars f ++ q) ≡ part 18 (8 * len - 18) xs =
      spelled-append (labelled vars f) q ∙ parts 18 (front - 18) room (8 * len - 18) xs (spelled (labelled vars f)) (spelled q) own next (omega (arith, least, within)) in
      let wanted : length pad ≡ 8 * len - front_bits vars - length (spelled p) = omega (arith, wide_pad, long, wide) in
      let lefts : AfterMessageLength way (Some vars) len (labelled vars f ++ q) =
      (omega (arith, wide, within), most, (labelled vars f, q, refl, here.reads, (p, kept PADDING pad, refl, (vs, whole), (pad, wanted, refl)))) in
      record {
        count = here.count;
        lang = (new_left way _).0 (nid, _, small, refl, (len, _, refl, subst (λ (o : Option (List Var)). AfterMessageLength way o len (labelled vars f ++ q)) (sym typed) lefts));
        bits = headed_bits nid len (8 * len) (labelled vars f ++ q) xs first second (omega (arith, least, within)) all;
      }

pub typed_seen : (way : Way) (nid len front left : ℕ) (vars : List Var) (f : List ℕ) (holds : Holds) (xs : List Bool) → front_row way nid ≡ Some vars → nid < 2 ^ 8 → len < 2 ^ 10 → front ≡ front_bits vars → front ≤ 8 * len → 8 * len ≤ length xs → num 8 nid ≡ part 0 8 xs → num 10 len ≡ part 8 10 xs → FrontAt (front_vars way nid) xs 18 f (front_bits (front_vars way nid)) → RunAt (Message way) (8 * len - front) holds xs front left → SeenAtOnce way len xs
typed_seen way nid len front left vars f holds xs typed small most wide within inside first second there run =
    let whole = typed_parts way nid len front left vars f holds (part (8 * len - left) left xs) xs typed small most wide within inside first second there run refl in
    let (m, reads) = whole.lang in
    (m, headed nid len (labelled vars f ++ (readings_to way run.packets ++ kept PADDING (part (8 * len - left) left xs))), reads, whole.bits)

-- the bits of PADDING are few
pub padding_few : (way : Way) (room left : ℕ) (holds : Holds) (xs : List Bool) (at : ℕ) → RunAt (Message way) room holds xs at left → (left ≤ 7) × (left ≤ room)
padding_few way room left holds xs at run =
    let fills = run.run.fills in
    let within = run.within in
    (omega (arith, fills.1, run.long), within)

pub typed_at_once : {H B P : Type 0} (way : Way) (hd : HeadOf H) (bd : OwnOf B) (form : P → Form) {sent_head : H → Reading} {sent_own : B → Reading} (hl : HeadLaws way H sent_head hd) (ol : OwnLaws way B sent_own bd) (nid len front left number : ℕ) (vars : List Var) (f : List ℕ) (head : H) (body : B) (list : PacketList P) (holds : Holds) (ps : List P) (xs : List Bool) → front_row way nid ≡ Some vars → nid < 2 ^ 8 → len < 2 ^ 10 → front ≡ front_bits vars → front ≤ 8 * len → 8 * len ≤ length xs → num 8 nid ≡ part 0 8 xs → num 10 len ≡ part 8 10 xs
    → FrontAt (front_vars way nid) xs 18 f (front_bits (front_vars way nid)) → IsFrontBy way hd bd nid f head body → RunAt (Message way) (8 * len - front) holds xs front left → ((vs : List PacketValue) (g : List ℕ) (k : List Bool) → holds vs g k → list_holds form list.packets.items list.numbers.items list.bits vs g k) → num left number ≡ part (8 * len - left) left xs → number < 2 ^ left → ps ≡ list.packets.items → ReadAtOnce way hd bd form (Typed head body ps number) len xs
typed_at_once {H} {B} {P} way hd bd form hl ol nid len front left number vars f head body list holds ps xs typed small most wide within inside first second there made run listed padded fits same =
    let pad = num left number in
    let vs = run.packets in
    let whole = typed_parts way nid len front left vars f holds pad xs typed small most wide within inside first second there run padded in
    let q = headed nid len (labelled vars f ++ (readings_to way vs ++ kept PADDING pad)) in
    let few = padding_few way (8 * len - front) left holds xs front run in
    let size = length-num left number in
    let long : length (spelled q) ≡ 8 * len = ap length whole.bits ∙ length-part 0 (8 * len) xs (omega (arith, inside)) in
    let parts = typed_is way hd bd form hl ol nid f list.packets.items list.numbers.items list.bits number q whole.lang record {
      len = len;
      vars = vars;
      packets = vs;
      bits = pad;
      typed = typed;
      count = whole.count;
      held = listed vs [] [] run.held;
      carried = run.run.carried;
      short = omega (arith, size, few.0);
      small = subst (λ k. number < 2 ^ k) (sym size) fits;
      padding_is = ap (λ k. num k number) (sym size);
      most = most;
      reading_is = refl;
      room_is = omega (arith, long);
    } in
    let n = length (head_row way) in
    let read : ReadAtOnce way hd bd form (Typed (hd.made (take n f)) (bd.made nid (drop n f)) list.packets.items number) len xs = counted way hd bd form (Typed (hd.made (take n f)) (bd.made nid (drop n f)) list.packets.items number) len xs q inside parts.message parts.reads whole.bits in
    let with_head = subst (λ (h : H). ReadAtOnce way hd bd form (Typed h (bd.made nid (drop n f)) list.packets.items number) len xs) (sym made.0) read in
    let with_body = subst (λ (b : B). ReadAtOnce way hd bd form (Typed head b list.packets.items number) len xs) (sym made.1) with_head in
    subst (λ (l : List P). ReadAtOnce way hd bd form (Typed head body l number) len xs) (sym same) with_body

-- ---- The outline of a message.

pub kept_outline : {H B : Type 0} (way : Way) (head_of : H → Reading) (body_of : B → Reading) (bd : OwnOf B) (nid len : ℕ) (b xs : List Bool) → front_row way nid ≡ None → nid < 2 ^ 8 → 3 ≤ len → len < 2 ^ 10 → 8 * len ≤ length xs → num 8 nid ≡ part 0 8 xs → num 10 len ≡ part 8 10 xs → b ≡ part 18 (8 * len - 18) xs → IsOutline way head_of body_of bd xs len (outline.Kept nid b)
kept_outline way head_of body_of bd nid len b xs untyped small least most inside first second e =
    let (k, is) = kept_parts way nid len b xs untyped small least most inside first second e in
    (headed nid len (kept OTHER_DATA b), k, is)

pub typed_outline : {H B : Type 0} (way : Way) (hd : HeadOf H) (bd : OwnOf B) {sent_head : H → Reading} {sent_own : B → Reading} (hl : HeadLaws way H sent_head hd) (ol : OwnLaws way B sent_own bd) (nid len front : ℕ) (vars : List Var) (f : List ℕ) (head : H) (body : B) (xs : List Bool) → front_row way nid ≡ Some vars → nid < 2 ^ 8 → len < 2 ^ 10 → front ≡ front_bits vars → front ≤ 8 * len → 8 * len ≤ length xs → num 8 nid ≡ part 0 8 xs → num 10 len ≡ part 8 10 xs → FrontAt (front_vars way nid) xs 18 f (front_bits (front_vars way nid)) → IsFrontBy way hd bd nid f head body → IsOutline way sent_head sent_own bd xs len (outline.Typed head body front)
typed_outline {H} {B} way hd bd {sent_head} {sent_own} hl ol nid len front vars f head body xs typed small most wide within inside first second there made = (
  within,
  inside,
  λ vs left run.
      (let pad = part (8 * len - left) left xs in
      let whole = typed_parts way nid len front left vars f (λ us g k. us ≡ vs) pad xs typed small most wide within inside first second there run refl in
      let q = headed nid len (labelled vars f ++ (readings_to way run.packets ++ kept PADDING pad)) in
      let few = padding_few way (8 * len - front) left (λ us g k. us ≡ vs) xs front run in
      let short : length pad ≤ 7 = (let size = length-part (8 * len - left) left xs (omega (arith, inside, few.1)) in omega (arith, size, few.0)) in
      let n = length (head_row way) in
      let (h, own, reads, firsts, others) = front_reads way nid len vars f run.packets pad q typed whole.count run.run.carried short refl whole.lang in
      let by = made_reads way hd bd hl ol nid h own (take n f) (drop n f) run.packets pad q reads firsts others in
      let with_head = subst (λ (x : H). TypedReads way (bd.nid (bd.made nid (drop n f))) (hd.reading x) (bd.reading (bd.made nid (drop n f))) run.packets pad q) (sym made.0) by in
      let with_body = subst (λ (x : B). TypedReads way (bd.nid x) (hd.reading head) (bd.reading x) run.packets pad q) (sym made.1) with_head in
      let with_packets = subst (λ (x : List PacketValue). TypedReads way (bd.nid body) (hd.reading head) (bd.reading body) x pad q) run.held with_body in
      let sent = subst (λ (x : Reading). TypedReads way (bd.nid body) x (bd.reading body) vs pad q) (sym (hl.is_sent head)) with_packets in
      (q, subst (λ (x : Reading). TypedReads way (bd.nid body) (sent_head head) x vs pad q) (sym (ol.is_sent body)) sent, whole.bits)),
)
