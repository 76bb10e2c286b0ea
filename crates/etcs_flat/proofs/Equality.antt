-- `==` of packets is equality of their values.
use Rattle.std.proofs.Common.{rules, ◌&&◌, nat_eq, refl}
use Rattle.std.specs.Cmp.Lexicographic.{pointwise}
use Rattle.etcs_bodies.specs.Equality.{IsExact}
use Rattle.etcs_bodies.specs.laws.Equality.{number_exact, flag_exact, list_exact, both_exact, fields_exact}
use Rattle.etcs_flat.specs.Flats.{FlatValue, flat_value}
use Rattle.etcs_flat.specs.Others.{Other, other_value}
use Rattle.etcs_flat.specs.contracts.other.OtherPartialEq.TheImpl as other
use Rattle.etcs_flat.specs.contracts.marker.MarkerPartialEq.TheImpl as marker

pub marker_exact : IsExact marker.ghosts.eq
marker_exact a b = search rules

pub flat_exact : IsExact (λ (a b : FlatValue). nat_eq a.dir b.dir && pointwise nat_eq a.numbers b.numbers)
flat_exact = fields_exact (λ (p : FlatValue). (p.dir, p.numbers)) (λ n. flat_value n.0 n.1) (λ p. refl) (both_exact number_exact (list_exact number_exact))

pub other_exact : IsExact other.ghosts.eq
other_exact = fields_exact (λ (p : Other). (p.nid, (p.dir, p.body))) (λ n. other_value n.0 n.1.0 n.1.1) (λ p. refl) (both_exact number_exact (both_exact number_exact (list_exact flag_exact)))
