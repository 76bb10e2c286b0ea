-- Lemmas about specs/Authorities.antt.
use Rattle.std.proofs.Common.{◌≡◌, ℕ, ◌++◌, ◌+◌, ◌≤◌, length, Option, Some, None, refl, sym, ◌∙◌, arith, ◌&&◌, nat_eq, Decides}
use Rattle.std.specs.Prelude.{flat_map, if◌then◌else◌}
use Rattle.std.specs.Option.{is_some}
use Rattle.etcs_vars.specs.declared.var.Var.TheVariants.{N_ITER}
use Rattle.etcs_vars.specs.Reading.{spelled}
use Rattle.etcs_bodies.specs.Formats.{reading, Is}
use Rattle.etcs_bodies.specs.laws.Formats.{IsFormat, at_most, exact_of}
use Rattle.etcs_bodies.specs.Repeats.{bit_count}
use Rattle.etcs_bodies.specs.laws.Repeats.{bit_count_is, bit_count-append}
use Rattle.etcs_bodies.specs.laws.Choices.{few_counted}
use Rattle.etcs_bodies.specs.Codecs.{list_reading}
use Rattle.etcs_parts.specs.Sections.{section_format, end_format}
use Rattle.etcs_parts.specs.laws.Sections.{section_ok, end_ok, end_bits}
use Rattle.etcs_parts.specs.Authorities.{end_timer_format, danger_format, Overlap, overlap_format, groups_format, Authority, authority_value, authority_format}
use Rattle.etcs_bodies.specs.Equality.{IsExact}
use Rattle.etcs_bodies.specs.laws.Equality.{number_exact, fields_exact, both_exact, numbers_exact, option_exact, list_exact}
use Rattle.etcs_parts.specs.contracts.authority.AuthorityPartialEq.TheImpl as authority_eq

pub groups_ok : IsFormat groups_format
groups_ok = (((refl, refl, refl), (tt, tt)), (((refl, refl, refl), (tt, tt)), ((refl, refl, refl), (λ p. refl, λ v. refl, (tt, (tt, (tt, tt)))))))

pub authority_ok : IsFormat authority_format
authority_ok = (λ p. refl, λ v. refl, (section_ok, (end_ok, groups_ok)))

-- ---- Its bits.

-- all but its sections
abbrev groups_of : Authority → Option (ℕ × ℕ) × (Option (ℕ × ℕ) × Option Overlap)
groups_of p = (p.end_timer, (p.danger_point, p.overlap))

pub few_sections : (p : Authority) → Is authority_format p → length p.sections ≤ 31
few_sections p h = few_counted (length p.sections) h.0.0

count_end_timer : (o : Option (ℕ × ℕ)) → bit_count (reading end_timer_format o) ≡ (if is_some o then 26 else 1)
count_end_timer None = refl
count_end_timer (Some t) = refl

count_danger : (o : Option (ℕ × ℕ)) → bit_count (reading danger_format o) ≡ (if is_some o then 23 else 1)
count_danger None = refl
count_danger (Some p) = refl

count_overlap : (o : Option Overlap) → bit_count (reading overlap_format o) ≡ (if is_some o then 48 else 1)
count_overlap None = refl
count_overlap (Some p) = refl

pub groups_bits : (t d : Option (ℕ × ℕ)) (o : Option Overlap) (a b c : ℕ) → a ≡ (if is_some t then 26 else 1) → b ≡ (if is_some d then 23 else 1) → c ≡ (if is_some o then 48 else 1) → a + b + c ≡ length (spelled (reading groups_format (t, (d, o))))
groups_bits t d o a b c ha hb hc =
    let first = bit_count-append (reading end_timer_format t) (reading danger_format d ++ reading overlap_format o) in
    let second = bit_count-append (reading danger_format d) (reading overlap_format o) in
    let ea : a ≡ bit_count (reading end_timer_format t) = ha ∙ sym (count_end_timer t) in
    let eb : b ≡ bit_count (reading danger_format d) = hb ∙ sym (count_danger d) in
    let ec : c ≡ bit_count (reading overlap_format o) = hc ∙ sym (count_overlap o) in
    rw (bit_count_is (reading groups_format (t, (d, o)))) (omega arith)

pub authority_bits : (p : Authority) (a b c : ℕ) → a ≡ length (spelled (flat_map (reading section_format) p.sections)) → b ≡ length (spelled (reading section_format p.end)) → c ≡ length (spelled (reading groups_format (groups_of p))) → 5 + a + b + c ≡ length (spelled (reading authority_format p))
authority_bits p a b c ha hb hc =
    let groups = reading groups_format (groups_of p) in
    let sections = bit_count-append (list_reading N_ITER (reading section_format) p.sections) (reading end_format p.end ++ groups) in
    let end = bit_count-append (reading end_format p.end) groups in
    let ea = ha ∙ bit_count_is (flat_map (reading section_format) p.sections) in
    let eb = hb ∙ sym (end_bits p.end) ∙ bit_count_is (reading end_format p.end) in
    let ec = hc ∙ bit_count_is groups in
    rw (bit_count_is (reading authority_format p)) (omega arith)

-- all of 31 sections, the end section and every group
pub authority_small : (p : Authority) → Is authority_format p → length (spelled (reading authority_format p)) ≤ 1414
authority_small p h = rw (bit_count_is (reading authority_format p)) (at_most authority_format p h)

-- ---- Its `==`.

overlap_exact : IsExact (λ (a b : Overlap). ((nat_eq a.0 b.0 && nat_eq a.1 b.1) && nat_eq a.2 b.2) && nat_eq a.3 b.3)
overlap_exact =
    fields_exact (λ (o : Overlap). (((o.0, o.1), o.2), o.3)) (λ n. (n.0.0.0, n.0.0.1, n.0.1, n.1)) (λ o. refl) (
    both_exact (both_exact numbers_exact number_exact) number_exact)

pub authority_exact : (a b : Authority) → Decides (authority_eq.ghosts.eq a b) (a ≡ b)
authority_exact =
    fields_exact (λ (p : Authority). (p.end_timer, (p.danger_point, (p.overlap, (p.end, p.sections))))) (λ n. authority_value n.1.1.1.1 n.1.1.1.0 n.0 n.1.0 n.1.1.0) (λ p. refl) (
    both_exact (option_exact numbers_exact) (both_exact (option_exact numbers_exact) (both_exact (option_exact overlap_exact) (both_exact (exact_of section_format section_ok) (list_exact (exact_of section_format section_ok))))))
