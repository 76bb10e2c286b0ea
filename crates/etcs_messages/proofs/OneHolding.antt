-- What a reader holds between two pieces is given by the bits that it has seen.
use Rattle.std.proofs.Common.{◌≡◌, ℕ, Bool, List, [], ◌∷◌, ◌++◌, length, Some, None, sym, ap, subst, ◌∙◌, arith, length-append, inl, inr}
use Rattle.std.specs.Prelude.{Option, All}
use Rattle.etcs_vars.specs.declared.var.Var.{Var}
use Rattle.etcs_vars.specs.declared.var.Var.TheVariants.{NID_MESSAGE, L_MESSAGE, OTHER_DATA}
use Rattle.etcs_vars.specs.Reading.{Reading, kept}
use Rattle.etcs_vars.proofs.Apart.{cut}
use Rattle.etcs_packets.specs.PacketValues.{Form, IsPacketTo}
use Rattle.etcs_packets.specs.PacketReadings.{readings_to}
use Rattle.etcs_packets.proofs.OnePacket.{lists_one}
use Rattle.etcs_sequence.specs.Runs.{Begun}
use Rattle.etcs_sequence.specs.Labels.{labelled}
use Rattle.etcs_sequence.proofs.LabelLaws.{labelled_count, labelled_most}
use Rattle.etcs_sequence.proofs.BegunKnown.{packets_known, begun_unpacked, begun_known}
use Rattle.etcs_sequence.proofs.BitLaws.{bits_known}
use Rattle.etcs_sequence.proofs.OneHolding.{sent_parts, one_held}
use Rattle.etcs_messages.specs.Messages.{values_of, MessageLanguage}
use Rattle.etcs_messages.specs.Lefts.{front_row, headed}
use Rattle.etcs_tables.specs.declared.row.Way.{Way}
use Rattle.etcs_messages.proofs.Spelling.{OnePacket}
use Rattle.etcs_messages.specs.Readers.{InFront, InPackets, Standing, Members, OneHolding}

-- ---- The front has the number, and with it the variables.

headed_parts : (nid nid' len len' : ℕ) (r s : Reading) → headed nid len r ≡ headed nid' len' s → (nid ≡ nid') × (r ≡ s)
headed_parts nid nid' len len' r s e =
    let (v1, n1, r1) = sent_parts NID_MESSAGE NID_MESSAGE nid nid' ((L_MESSAGE, len) ∷ r) ((L_MESSAGE, len') ∷ s) e in
    let (v2, n2, r2) = sent_parts L_MESSAGE L_MESSAGE len len' r s r1 in
    (n1, r2)

rows_same : (way : Way) (nid nid' : ℕ) (vars vars' : List Var) → nid ≡ nid' → front_row way nid ≡ Some vars → front_row way nid' ≡ Some vars' → vars ≡ vars'
rows_same way nid nid' vars vars' same typed typed' = let both : ◌≡◌ {A = Option (List Var)} (Some vars) (Some vars') = sym typed ∙ ap (front_row way) same ∙ typed' in cc

-- no number is typed and kept
typed_apart : (way : Way) (nid nid' : ℕ) (vars : List Var) → nid ≡ nid' → front_row way nid ≡ Some vars → front_row way nid' ≡ None → ⊥
typed_apart way nid nid' vars same typed none = let both : ◌≡◌ {A = Option (List Var)} (Some vars) None = sym typed ∙ ap (front_row way) same ∙ none in absurd cc

-- ---- What comes before the packets isn't more.

front_packets : (way : Way) (far : Reading) (nid len : ℕ) (vars : List Var) (front : List ℕ) (t : Reading) → InFront way far → front_row way nid ≡ Some vars → length front ≡ length vars → far ≡ headed nid len (labelled vars front ++ t) → ⊥
front_packets way far nid len vars front t (inl none) typed all is = let two : ◌≡◌ {A = Reading} [] (headed nid len (labelled vars front ++ t)) = sym none ∙ is in absurd cc
front_packets way far nid len vars front t (inr (inl (nid', one))) typed all is = let two = sent_parts NID_MESSAGE NID_MESSAGE nid' nid [] ((L_MESSAGE, len) ∷ (labelled vars front ++ t)) (sym one ∙ is) in let three = two.2 in absurd cc
front_packets way far nid len vars front t (inr (inr (nid', len', vars', some, typed', less, e))) typed all is =
    let (same, rest) = headed_parts nid' nid len' len (labelled vars' some) (labelled vars front ++ t) (sym e ∙ is) in
    let row = ap (λ (u : List Var). length u) (rows_same way nid' nid vars' vars same typed' typed) in
    let long = ap (λ (u : Reading). length u) rest in
    omega (arith, less, row, long, labelled_most vars' some, labelled_count vars front all, length-append (labelled vars front) t)

front_data : (way : Way) (far : Reading) (nid len : ℕ) (r : Reading) → InFront way far → front_row way nid ≡ None → far ≡ headed nid len r → ⊥
front_data way far nid len r (inl none) untyped is = let two : ◌≡◌ {A = Reading} [] (headed nid len r) = sym none ∙ is in absurd cc
front_data way far nid len r (inr (inl (nid', one))) untyped is = let two = sent_parts NID_MESSAGE NID_MESSAGE nid' nid [] ((L_MESSAGE, len) ∷ r) (sym one ∙ is) in let three = two.2 in absurd cc
front_data way far nid len r (inr (inr (nid', len', vars', some, typed', less, e))) untyped is =
    typed_apart way nid' nid vars' (headed_parts nid' nid len' len (labelled vars' some) r (sym e ∙ is)).0 typed' untyped

-- ---- All that is held.

packets_same : {P : Type 0} (way : Way) (form : P → Form) (far : Reading) (ps qs : List P) (f g : List ℕ) (k l : List Bool) → All (IsPacketTo way) (values_of form ps) → All (IsPacketTo way) (values_of form qs) → InPackets way form ps f k far → InPackets way form qs g l far → (values_of form ps ≡ values_of form qs) × (f ≡ g) × (k ≡ l)
packets_same way form far ps qs f g k l hp hq (nid, len, vars, front, here, typed, all, is, begun) (nid', len', vars', front', here', typed', all', is', begun') =
    let vs = values_of form ps in
    let us = values_of form qs in
    let (same, rest) = headed_parts nid nid' len len' (labelled vars front ++ (readings_to way vs ++ here)) (labelled vars' front' ++ (readings_to way us ++ here')) (sym is ∙ is') in
    let row = ap (λ (u : List Var). length u) (rows_same way nid nid' vars vars' same typed typed') in
    let counts = labelled_count vars front all ∙ row ∙ sym (labelled_count vars' front' all') in
    let t = (cut (labelled vars front) (labelled vars' front') (readings_to way vs ++ here) (readings_to way us ++ here') counts rest).1 in
    let p = packets_known way vs us here here' hp hq (begun_unpacked way here f k begun) (begun_unpacked way here' g l begun') t in
    let b = begun_known way here' f g k l (subst (λ (x : Reading). Begun way x f k) p.1 begun) begun' in
    (p.0, b.0, b.1)

standing_known : {P : Type 0} (way : Way) (form : P → Form) (far : Reading) (ps qs : List P) (f g : List ℕ) (k l : List Bool) → All (IsPacketTo way) (values_of form ps) → All (IsPacketTo way) (values_of form qs) → Standing way form ps f k far → Standing way form qs g l far → (values_of form ps ≡ values_of form qs) × (f ≡ g) × (k ≡ l)
standing_known way form far ps qs f g k l hp hq (inl (x, a, b, c)) (inl (y, a', b', c')) = (ap (values_of form) (a ∙ sym a'), b ∙ sym b', c ∙ sym c')
standing_known way form far ps qs f g k l hp hq (inl (x, a, b, c)) (inr (inl (nid, len, vars, front, here, typed, all, is, begun))) = absurd (front_packets way far nid len vars front (readings_to way (values_of form qs) ++ here) x typed all is)
standing_known way form far ps qs f g k l hp hq (inl (x, a, b, c)) (inr (inr ((nid, len, none, is), d, e))) = absurd (front_data way far nid len (kept OTHER_DATA l) x none is)
standing_known way form far ps qs f g k l hp hq (inr (inl (nid, len, vars, front, here, typed, all, is, begun))) (inl (y, a, b, c)) = absurd (front_packets way far nid len vars front (readings_to way (values_of form ps) ++ here) y typed all is)
standing_known way form far ps qs f g k l hp hq (inr (inr ((nid, len, none, is), d, e))) (inl (y, a, b, c)) = absurd (front_data way far nid len (kept OTHER_DATA k) y none is)
standing_known way form far ps qs f g k l hp hq (inr (inl x)) (inr (inl y)) = packets_same way form far ps qs f g k l hp hq x y
standing_known way form far ps qs f g k l hp hq (inr (inl (nid, len, vars, front, here, typed, all, is, begun))) (inr (inr ((nid', len', none, is'), d, e))) =
    absurd (typed_apart way nid nid' vars (headed_parts nid nid' len len' (labelled vars front ++ (readings_to way (values_of form ps) ++ here)) (kept OTHER_DATA l) (sym is ∙ is')).0 typed none)
standing_known way form far ps qs f g k l hp hq (inr (inr ((nid', len', none, is'), d, e))) (inr (inl (nid, len, vars, front, here, typed, all, is, begun))) =
    absurd (typed_apart way nid nid' vars (headed_parts nid nid' len len' (labelled vars front ++ (readings_to way (values_of form qs) ++ here)) (kept OTHER_DATA k) (sym is ∙ is')).0 typed none)
standing_known way form far ps qs f g k l hp hq (inr (inr ((nid, len, none, is), d, e))) (inr (inr ((nid', len', none', is'), d', e'))) =
    (ap (values_of form) (d ∙ sym d'), e ∙ sym e', bits_known OTHER_DATA k l (headed_parts nid nid' len len' (kept OTHER_DATA k) (kept OTHER_DATA l) (sym is ∙ is')).1)

pub one_holding : {P : Type 0} (way : Way) (form : P → Form) → OnePacket form → OneHolding way form
one_holding way form one b ps qs f g k l part part' taken taken' h i =
    let (far, number, count) = one_held (MessageLanguage way) (Members way form ps f k) (Members way form qs g l) b part part' taken taken' h i in
    let (stand, made, carried) = h.members in
    let (stand', made', carried') = i.members in
    let parts = standing_known way form i.far ps qs f g k l carried carried' (subst (Standing way form ps f k) far stand) stand' in
    (lists_one form one ps qs made made' parts.0, parts.1, parts.2, number, count)
