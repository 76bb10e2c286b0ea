-- Lemmas about specs/Links.antt.
use Rattle.std.proofs.Common.{◌≡◌, ◌+◌, [], ◌∷◌, length, refl, arith, Decides}
use Rattle.etcs_bits.specs.Bits.{bit}
use Rattle.etcs_vars.specs.declared.var.Var.TheVariants.{Q_LINKORIENTATION, Q_LINKREACTION, Q_LOCACC}
use Rattle.etcs_vars.specs.Reading.{spelled}
use Rattle.etcs_bodies.specs.Formats.{reading}
use Rattle.etcs_bodies.specs.laws.Formats.{IsFormat, exact_of}
use Rattle.etcs_bodies.specs.laws.Repeats.{bit_count_is, bit_count-append}
use Rattle.etcs_parts.specs.BalisesAt.{balise_at_format}
use Rattle.etcs_parts.specs.laws.BalisesAt.{balise_at_ok}
use Rattle.etcs_parts.specs.Links.{Link, link_format}
use Rattle.etcs_parts.specs.contracts.link.LinkPartialEq.TheImpl as link_eq

pub link_ok : IsFormat link_format
link_ok = (λ p. refl, λ v. refl, (tt, (balise_at_ok, ((refl, refl, refl), (tt, tt)))))

pub link_bits : (l : Link) → length (spelled (reading link_format l)) ≡ 24 + length (spelled (reading balise_at_format l.balise))
link_bits l =
    let after = bit_count-append (reading balise_at_format l.balise) ((Q_LINKORIENTATION, bit l.q_linkorientation) ∷ (Q_LINKREACTION, l.q_linkreaction) ∷ (Q_LOCACC, l.q_locacc) ∷ []) in
    rw (bit_count_is (reading link_format l), bit_count_is (reading balise_at_format l.balise)) (omega arith)

pub link_exact : (a b : Link) → Decides (link_eq.ghosts.eq a b) (a ≡ b)
link_exact = exact_of link_format link_ok
