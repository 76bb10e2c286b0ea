-- Telegrams of one size by their spellings.
use Rattle.std.proofs.Common.{◌≡◌, ◌+◌, ◌≤◌, Bool, false, List, [], ◌++◌, length, refl, sym, ap, subst, ◌∙◌, arith}
use Rattle.std.specs.Prelude.{replicate, All}
use Rattle.std.proofs.lemmas.List.{append-nil, length-replicate}
use Rattle.etcs_vars.specs.declared.var.Var.TheVariants.{FILL, PAD}
use Rattle.etcs_vars.specs.Reading.{Reading, spelled, kept}
use Rattle.etcs_vars.proofs.Apart.{Agree, AllFit, Agree-append, Agree-same, AllFit-append, Agree-cut, apart, cut}
use Rattle.etcs_vars.proofs.Walk.{Regular}
use Rattle.etcs_rows.specs.declared.frames.Carrier.TheVariants.{Telegram}
use Rattle.etcs_packets.specs.declared.packet.Packet.{Packet}
use Rattle.etcs_packets.specs.PacketValues.{PacketValue, IsMade}
use Rattle.etcs_packets.proofs.OnePacket.{one_list}
use Rattle.etcs_sequence.specs.Contents.{ReadsPackets}
use Rattle.etcs_sequence.specs.laws.Agreement.{run_regular}
use Rattle.etcs_sequence.proofs.OneSpelling.{packets_same}
use Rattle.etcs_sequence.specs.laws.RunSteps.{both_length}
use Rattle.etcs_sequence.specs.laws.BitLaws.{bits_agree, bits_fit}
use Rattle.etcs_sequence.proofs.BitLaws.{bits_known, bits_length}
use Rattle.etcs_telegram.specs.declared.size.Size.{Size}
use Rattle.etcs_telegram.specs.Telegrams.{HeaderValue, TelegramContent, TelegramValue, TelegramReads, TelegramLanguage, OneSpelling, header_reading, closed_reading, telegram_value, user_bits, pad_bits, packet_room}
use Rattle.etcs_telegram.proofs.HeaderLemmas.{admitted_fit, header_length, header_same}

pub header_agree : (h k : HeaderValue) → Agree (header_reading h) (header_reading k)
header_agree h k = (refl, λ _. (refl, λ _. (refl, λ _. (refl, λ _. (refl, λ _. (refl, λ _. (refl, λ _. (refl, λ _. (refl, λ _. (refl, λ _. tt))))))))))

-- ---- The parts of a telegram's reading.

abbrev closed : TelegramValue → Reading
closed t = closed_reading t.packets

abbrev pub zeros : Size → Reading
zeros size = kept PAD (replicate (pad_bits size) false)

-- packets and packet 255 are a run in the room that the header leaves
pub closed_run : (t : TelegramValue) (r : Reading) → TelegramReads t r → ReadsPackets Telegram (packet_room t.size) t.packets (closed_reading t.packets)
closed_run t r x =
    let fits : length (spelled (closed_reading t.packets)) ≤ packet_room t.size = omega (arith, header_length t.header, x.user_bits_is) in
    record { carried = x.packets_hold; reading_is = refl; fills = fits }

closed_at : (size : Size) (t : TelegramValue) (r : Reading) → t.size ≡ size → TelegramReads t r → ReadsPackets Telegram (packet_room size) t.packets (closed t)
closed_at size t r s x = subst (λ (k : Size). ReadsPackets Telegram (packet_room k) t.packets (closed t)) s (closed_run t r x)

runs_agree : (size : Size) (t u : TelegramValue) (a b : Reading) → t.size ≡ size → u.size ≡ size → TelegramReads t a → TelegramReads u b → Agree (closed t) (closed u)
runs_agree size t u a b st su x y =
    let runs = run_regular Telegram (packet_room size) in
    runs.agree (closed t) (closed u) (t.packets, closed_at size t a st x) (u.packets, closed_at size u b su y)

-- if the packets are the same, FILL has the same length
fills_alike : (t u : TelegramValue) (a b : Reading) → t.size ≡ u.size → closed t ≡ closed u → TelegramReads t a → TelegramReads u b → length t.fill ≡ length u.fill
fills_alike t u a b s e x y =
    omega (arith, header_length t.header, header_length u.header, x.user_bits_is, y.user_bits_is, ap user_bits s, ap (λ (r : Reading). length (spelled r)) e)

-- ---- Two telegrams of one size agree.

headed_agree : (size : Size) (t u : TelegramValue) (a b : Reading) → t.size ≡ size → u.size ≡ size → TelegramReads t a → TelegramReads u b → Agree (header_reading t.header ++ closed t) (header_reading u.header ++ closed u)
headed_agree size t u a b st su x y =
    Agree-append (header_reading t.header) (header_reading u.header) (closed t) (closed u) (header_agree t.header u.header) (λ _. runs_agree size t u a b st su x y)

fronts_agree : (size : Size) (t u : TelegramValue) (a b : Reading) → t.size ≡ size → u.size ≡ size → TelegramReads t a → TelegramReads u b → Agree ((header_reading t.header ++ closed t) ++ kept FILL t.fill) ((header_reading u.header ++ closed u) ++ kept FILL u.fill)
fronts_agree size t u a b st su x y =
    Agree-append (header_reading t.header ++ closed t) (header_reading u.header ++ closed u) (kept FILL t.fill) (kept FILL u.fill)
    (headed_agree size t u a b st su x y)
    (λ e. let same : closed t ≡ closed u = (cut (header_reading t.header) (header_reading u.header) (closed t) (closed u) refl e).1 in
    bits_agree FILL t.fill u.fill (fills_alike t u a b (st ∙ sym su) same x y))

agree : (size : Size) (a b : Reading) → TelegramLanguage size a → TelegramLanguage size b → Agree a b
agree size a b (t, (st, x)) (u, (su, y)) =
    let pads : zeros t.size ≡ zeros u.size = ap zeros (st ∙ sym su) in
    rw (x.reading_is, y.reading_is, pads) (
    Agree-append ((header_reading t.header ++ closed t) ++ kept FILL t.fill) ((header_reading u.header ++ closed u) ++ kept FILL u.fill) (zeros u.size) (zeros u.size)
    (fronts_agree size t u a b st su x y)
    (λ _. Agree-same (zeros u.size)))

runs_fit : (t : TelegramValue) (r : Reading) → TelegramReads t r → AllFit (closed t)
runs_fit t r x = let runs = run_regular Telegram (packet_room t.size) in runs.fit (closed t) (t.packets, closed_run t r x)

fit : (size : Size) (a : Reading) → TelegramLanguage size a → AllFit a
fit size a (t, (st, x)) =
    rw x.reading_is
    (AllFit-append ((header_reading t.header ++ closed t) ++ kept FILL t.fill) (zeros t.size)
    (AllFit-append (header_reading t.header ++ closed t) (kept FILL t.fill)
    (AllFit-append (header_reading t.header) (closed t) (admitted_fit (header_reading t.header) x.header_admitted) (runs_fit t a x))
    (bits_fit FILL t.fill refl))
    (bits_fit PAD (replicate (pad_bits t.size) false) refl))

-- two readings of a size agree, and their numbers fit
pub regular : (size : Size) → Regular (TelegramLanguage size)
regular size = record { agree = agree size; fit = fit size }

-- ---- How long they are.

pub zeros_length : (size : Size) → length (spelled (zeros size)) ≡ pad_bits size
zeros_length size = bits_length PAD (replicate (pad_bits size) false) refl ∙ length-replicate (pad_bits size) false

-- every telegram of a size has the container's bits
pub whole_length : (size : Size) (r : Reading) → TelegramLanguage size r → length (spelled r) ≡ user_bits size + pad_bits size
whole_length size r (t, (st, x)) =
    let head = header_reading t.header in
    let fill = kept FILL t.fill in
    let e : length (spelled r) ≡ length (spelled (((head ++ closed t) ++ fill) ++ zeros t.size)) = ap (λ (q : Reading). length (spelled q)) x.reading_is in
    let l1 = both_length ((head ++ closed t) ++ fill) (zeros t.size) in
    let l2 = both_length (head ++ closed t) fill in
    let l3 = both_length head (closed t) in
    let u : user_bits t.size ≡ user_bits size = ap user_bits st in
    let p : pad_bits t.size ≡ pad_bits size = ap pad_bits st in
    omega (arith, e, l1, l2, l3, bits_length FILL t.fill refl, zeros_length t.size, u, p, x.user_bits_is)

-- ---- A reading is one telegram's.

abbrev made : Size → HeaderValue → List PacketValue → List Bool → TelegramValue
made s h ps f = record { size = s; header = h; packets = ps; fill = f }

pub parts_one : (t u : TelegramValue) → t.size ≡ u.size → t.header ≡ u.header → t.packets ≡ u.packets → t.fill ≡ u.fill → t ≡ u
parts_one t u s h p f i = made (s i) (h i) (p i) (f i)

pub one_value : (t u : TelegramValue) (r : Reading) → t.size ≡ u.size → TelegramReads t r → TelegramReads u r → t ≡ u
one_value t u r s x y =
    let head = header_reading t.header in
    let head' = header_reading u.header in
    let whole = sym x.reading_is ∙ y.reading_is in
    let fronts = Agree-cut ((head ++ closed t) ++ kept FILL t.fill) ((head' ++ closed u) ++ kept FILL u.fill) (zeros t.size) (zeros u.size) (fronts_agree u.size t u r r s refl x y) whole in
    let headed = Agree-cut (head ++ closed t) (head' ++ closed u) (kept FILL t.fill) (kept FILL u.fill) (headed_agree u.size t u r r s refl x y) fronts.0 in
    let parts = cut head head' (closed t) (closed u) refl headed.0 in
    let header : t.header ≡ u.header = header_same t.header u.header parts.0 in
    let packets : t.packets ≡ u.packets = packets_same Telegram (packet_room u.size) t.packets u.packets (closed t) (closed u) (closed_at u.size t r s x) (closed_run u r y) parts.1 in
    parts_one t u s header packets (bits_known FILL t.fill u.fill headed.1)

abbrev pub held : Size → HeaderValue → List Packet → List Bool → TelegramContent
held s h ps f = record { size = s; header = h; packets = ps; fill = f }

held_one : (t u : TelegramContent) → t.size ≡ u.size → t.header ≡ u.header → t.packets ≡ u.packets → t.fill ≡ u.fill → t ≡ u
held_one t u s h p f i = held (s i) (h i) (p i) (f i)

-- a value is one telegram's
pub one_parts : (t u : TelegramContent) → All IsMade t.packets → All IsMade u.packets → telegram_value t ≡ telegram_value u → t ≡ u
one_parts t u ht hu e =
    held_one t u
    (ap (λ (v : TelegramValue). v.size) e)
    (ap (λ (v : TelegramValue). v.header) e)
    (one_list t.packets u.packets ht hu (ap (λ (v : TelegramValue). v.packets) e))
    (ap (λ (v : TelegramValue). v.fill) e)

pub one_spelling : OneSpelling
one_spelling size t u a b beyond it iu (st, x) (su, y) e =
    let ta : TelegramLanguage size a = (telegram_value t, (st, x)) in
    let ub : TelegramLanguage size b = (telegram_value u, (su, y)) in
    let reg = regular size in
    let both = apart b a [] beyond (reg.agree b a ub ta) (reg.fit b ub) (reg.fit a ta) (append-nil (spelled b) ∙ e) in
    let y' : TelegramReads (telegram_value u) a = rw both.0 at y in
    (one_parts t u it.made iu.made (one_value (telegram_value t) (telegram_value u) a (st ∙ sym su) x y'), sym both.1)
