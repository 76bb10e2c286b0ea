-- The digits of lines as people have them: what is read, and what isn't.
use Rattle.std.proofs.Common.{◌≡◌, ℕ, List, [], ◌∷◌, map, refl}
use Rattle.std.specs.Prelude.{codes}
use Rattle.etcs_runs.specs.Digits.{line_digits, line_front, text_digits}
use Rattle.etcs_runs.specs.LineRuns.{front_of, line_runs}

pub after_a_name : line_digits (codes "data=A113140C40FFC14022A1") ≡ codes "A113140C40FFC14022A1"
after_a_name = refl

pub after_two_names : line_digits (codes "t=12 d=A113140C40FFC14022A1") ≡ codes "A113140C40FFC14022A1"
after_two_names = refl

pub dots : line_digits (codes "A1.13.14.0C.40.FF.C1.40.22.A1") ≡ codes "A113140C40FFC14022A1"
dots = refl

pub underscores : line_digits (codes "A1_13_14_0C_40_FF_C1_40_22_A1") ≡ codes "A113140C40FFC14022A1"
underscores = refl

pub bars : line_digits (codes "A1|13|14|0C|40|FF|C1|40|22|A1") ≡ codes "A113140C40FFC14022A1"
bars = refl

pub quotes : line_digits (codes "\"A113140C40FFC14022A1\"") ≡ codes "A113140C40FFC14022A1"
quotes = refl

pub brackets : line_digits (codes "[A113140C40FFC14022A1]") ≡ codes "A113140C40FFC14022A1"
brackets = refl

pub in_json : line_digits (codes "{\"d\":\"A113140C40FFC14022A1\"}") ≡ codes "A113140C40FFC14022A1"
in_json = refl

pub angles : line_digits (codes "<A113140C40FFC14022A1>") ≡ codes "A113140C40FFC14022A1"
angles = refl

pub fields : line_digits (codes "1,A113140C40FFC14022A1,OK") ≡ codes "A113140C40FFC14022A1"
fields = refl

pub a_level_after : line_digits (codes "A113140C40FFC14022A1,-63") ≡ codes "A113140C40FFC14022A1"
a_level_after = refl

pub eights : line_digits (codes "A113140C 40FFC140 22A1") ≡ codes "A113140C40FFC14022A1"
eights = refl

pub a_number_before : line_digits (codes "balise 01 A1 13 14 0C 40 FF C1 40 22 A1") ≡ codes "01A113140C40FFC14022A1"
a_number_before = refl

pub a_comment_after : line_digits (codes "A113140C40FFC14022A1 ; balise 1") ≡ codes "A113140C40FFC14022A1"
a_comment_after = refl

pub a_letter_beside : line_digits (codes "xA113140C40FFC14022A1") ≡ codes ""
a_letter_beside = refl

pub with_0x : line_digits (codes "0xA113140C40FFC14022A1") ≡ codes "A113140C40FFC14022A1"
with_0x = refl

pub a_time_before : line_digits (codes "12:00:03 A113140C40FFC14022A1") ≡ codes "A113140C40FFC14022A1"
a_time_before = refl

pub blanks : line_digits (codes "A1 13 14 0C 40 FF C1 40 22 A1") ≡ codes "A113140C40FFC14022A1"
blanks = refl

pub dashes : line_digits (codes "A1-13-14-0C-40-FF-C1-40-22-A1") ≡ codes "A113140C40FFC14022A1"
dashes = refl

pub colons_after_a_time : line_digits (codes "12:00:03 A1:13:14:0C:40:FF:C1:40:22:A1") ≡ codes "A113140C40FFC14022A1"
colons_after_a_time = refl

pub commas : line_digits (codes "0xA1, 0x13, 0x14, 0x0C, 0x40, 0xFF, 0xC1, 0x40, 0x22, 0xA1") ≡ codes "A113140C40FFC14022A1"
commas = refl

pub commas_alone : line_digits (codes "A1,13,14,0C,40,FF,C1,40,22,A1") ≡ codes "A113140C40FFC14022A1"
commas_alone = refl

pub xxd : line_digits (codes "00000000: a113 140c 40ff c140 22a1") ≡ codes "a113140c40ffc14022a1"
xxd = refl

pub xxd_odd : line_digits (codes "00000000: a113 140c 40ff c140 22a1 0b") ≡ codes "a113140c40ffc14022a10b"
xxd_odd = refl

pub a_time_in_front_of_pairs : line_digits (codes "12:00:03 A1 13 14 0C 40 FF C1 40 22 A1") ≡ codes "A113140C40FFC14022A1"
a_time_in_front_of_pairs = refl

pub a_number_in_front : line_digits (codes "A0 A113140C40FFC14022A1") ≡ codes "A113140C40FFC14022A1"
a_number_in_front = refl

pub a_place_in_front : line_digits (codes "99/512: A113140C40FFC14022A1") ≡ codes "A113140C40FFC14022A1"
a_place_in_front = refl

pub fields_before : line_digits (codes "99;512;A113140C40FFC14022A1") ≡ codes "A113140C40FFC14022A1"
fields_before = refl

pub pairs_and_a_comment : line_digits (codes "A1 13 14 0C 40 FF C1 40 22 A1 ; balise 1") ≡ codes "A113140C40FFC14022A1"
pairs_and_a_comment = refl

pub pairs_and_a_word : line_digits (codes "A1-13-14-0C-40-FF-C1-40-22-A1 ok") ≡ codes "A113140C40FFC14022A1"
pairs_and_a_word = refl

pub eights_with_0x : line_digits (codes "0xA113140C,0x40FFC140,0x22A1") ≡ codes "A113140C40FFC14022A1"
eights_with_0x = refl

pub eights_with_blanks : line_digits (codes "0xA113140C, 0x40FFC140, 0x22A1") ≡ codes "A113140C40FFC14022A1"
eights_with_blanks = refl

pub sixes : line_digits (codes "A11314 0C40FF C14022 A1") ≡ codes "A113140C40FFC14022A1"
sixes = refl

pub the_last_of_two : line_digits (codes "A113140C40FFC14022A1 B113140C40FFC14022A1") ≡ codes "B113140C40FFC14022A1"
the_last_of_two = refl

pub a_member_after : line_digits (codes "{\"d\":\"A113140C40FFC14022A1\",\"level\":-63}") ≡ codes "A113140C40FFC14022A1"
a_member_after = refl

pub a_url : line_digits (codes "etcs://log/A113140C40FFC14022A1?n=1") ≡ codes "A113140C40FFC14022A1"
a_url = refl

pub few_digits : line_digits (codes "12:00:03 A1 13 14") ≡ codes "A11314"
few_digits = refl

pub few_digits_alone : line_digits (codes "1803") ≡ codes "1803"
few_digits_alone = refl

pub no_digits : line_digits (codes "12:00:09 no telegram") ≡ codes ""
no_digits = refl

pub a_letter_after : line_digits (codes "A113140C40FFC14022A1x") ≡ codes ""
a_letter_after = refl

pub odd : line_digits (codes "A113140C40FFC14022A10") ≡ codes "A113140C40FFC14022A10"
odd = refl

pub odd_alone : line_digits (codes "A") ≡ codes "A"
odd_alone = refl

pub only_0x : line_digits (codes "0x") ≡ codes ""
only_0x = refl

pub a_letter_among : line_digits (codes "A113140C4gFFC14022A1") ≡ codes ""
a_letter_among = refl

pub the_last_one_is_odd : line_digits (codes "12:00:03 A1 13 1") ≡ codes "1"
the_last_one_is_odd = refl

pub a_larger_group_last : line_digits (codes "A1 13 14 0C40FFC1") ≡ codes "0C40FFC1"
a_larger_group_last = refl

pub named_pairs : line_digits (codes "d=A1 13 14 0C 40 FF C1 40 22 A1") ≡ codes "A113140C40FFC14022A1"
named_pairs = refl

pub quoted_pairs : line_digits (codes "data=\"A1 13 14 0C 40 FF C1 40 22 A1\"") ≡ codes "A113140C40FFC14022A1"
quoted_pairs = refl

pub pairs_in_json : line_digits (codes "{\"d\":\"A1 13 14 0C 40 FF C1 40 22 A1\",\"level\":-63}") ≡ codes "A113140C40FFC14022A1"
pairs_in_json = refl

pub pairs_in_brackets : line_digits (codes "rx [A1 13 14 0C 40 FF C1 40 22 A1] ok") ≡ codes "A113140C40FFC14022A1"
pairs_in_brackets = refl

pub pairs_in_fields : line_digits (codes "2026-11-28,12:00:03,A1 13 14 0C 40 FF C1 40 22 A1,OK") ≡ codes "A113140C40FFC14022A1"
pairs_in_fields = refl

pub pairs_after_semicolons : line_digits (codes "99;512;A1 13 14 0C 40 FF C1 40 22 A1;OK") ≡ codes "A113140C40FFC14022A1"
pairs_after_semicolons = refl

pub quoted_one_by_one : line_digits (codes "[\"A1\", \"13\", \"14\", \"0C\", \"40\", \"FF\", \"C1\", \"40\", \"22\", \"A1\"]") ≡ codes "A113140C40FFC14022A1"
quoted_one_by_one = refl

pub in_braces : line_digits (codes "{ 0xA1, 0x13, 0x14, 0x0C, 0x40, 0xFF, 0xC1, 0x40, 0x22, 0xA1 };") ≡ codes "A113140C40FFC14022A1"
in_braces = refl

pub a_long_comment : line_digits (codes "A113140C40FFC14022A1 10 bytes # seen by 0123456789abcdef0123") ≡ codes "A113140C40FFC14022A1"
a_long_comment = refl

pub a_long_comment_after_a_semicolon : line_digits (codes "A113140C40FFC14022A1 ; 0123456789abcdef0123") ≡ codes "A113140C40FFC14022A1"
a_long_comment_after_a_semicolon = refl

pub a_long_comment_after_slashes : line_digits (codes "A1 13 14 0C 40 FF C1 40 22 A1 // 0123456789abcdef0123") ≡ codes "A113140C40FFC14022A1"
a_long_comment_after_slashes = refl

pub a_mark_before_the_digits : line_digits (codes "99 ; 512 ; A113140C40FFC14022A1") ≡ codes "A113140C40FFC14022A1"
a_mark_before_the_digits = refl

pub a_number_sign_before_the_digits : line_digits (codes "rx #7 A113140C40FFC14022A1") ≡ codes "A113140C40FFC14022A1"
a_number_sign_before_the_digits = refl

pub an_id_after : line_digits (codes "A113140C40FFC14022A1 0123456789abcdef0123") ≡ codes "0123456789abcdef0123"
an_id_after = refl

-- ---- What is before them.

pub front_time : line_front (codes "12:00:03 A1 13 14 0C 40 FF C1 40 22 A1") ≡ codes "12:00:03"
front_time = refl

pub front_name : line_front (codes "data=A113140C40FFC14022A1") ≡ codes "data="
front_name = refl

pub front_0x : line_front (codes "t=3 0xA113140C40FFC14022A1") ≡ codes "t=3"
front_0x = refl

pub front_in_json : line_front (codes "{\"d\":\"A113140C40FFC14022A1\"}") ≡ codes "{\"d\":\""
front_in_json = refl

pub front_fields : line_front (codes "1,A113140C40FFC14022A1,OK") ≡ codes "1,"
front_fields = refl

pub front_none : line_front (codes "A113140C40FFC14022A1") ≡ codes ""
front_none = refl

pub front_blanks : line_front (codes " \t A113140C40FFC14022A1") ≡ codes ""
front_blanks = refl

pub front_parts : line_front (codes "12:00:03 A1:13:14:0C:40:FF:C1:40:22:A1") ≡ codes "12:00:03"
front_parts = refl

pub front_commas : line_front (codes "rx \t0xA1, 0x13, 0x14, 0x0C, 0x40, 0xFF, 0xC1, 0x40, 0x22, 0xA1") ≡ codes "rx"
front_commas = refl

pub front_0x_parts : line_front (codes "t=3 0xA113140C,0x40FFC140,0x22A1") ≡ codes "t=3"
front_0x_parts = refl

pub front_xxd : line_front (codes "00000000: a113 140c 40ff c140 22a1 0b") ≡ codes "00000000:"
front_xxd = refl

pub front_comment_after : line_front (codes "7 of 9: A1 13 14 0C 40 FF C1 40 22 A1 ; balise 1") ≡ codes "7 of 9:"
front_comment_after = refl

pub front_member_after : line_front (codes "{\"t\":3, \"d\":\"A113140C40FFC14022A1\",\"level\":-63}") ≡ codes "{\"t\":3, \"d\":\""
front_member_after = refl

pub front_bracket : line_front (codes "BTM [A113140C40FFC14022A1]") ≡ codes "BTM ["
front_bracket = refl

pub front_of_two : line_front (codes "A113140C40FFC14022A1 B113140C40FFC14022A1") ≡ codes "A113140C40FFC14022A1"
front_of_two = refl

pub front_mark : line_front (239 ∷ 187 ∷ 191 ∷ codes "12:00 A113140C40FFC14022A1") ≡ codes "12:00"
front_mark = refl

pub front_few_digits : line_front (codes "12:00:03 A1 13 14") ≡ codes "12:00:03"
front_few_digits = refl

pub front_no_digits : line_front (codes "12:00:09 no telegram ") ≡ codes "12:00:09 no telegram"
front_no_digits = refl

pub front_named_pairs : line_front (codes "12:00:03 d=A1 13 14 0C 40 FF C1 40 22 A1") ≡ codes "12:00:03 d="
front_named_pairs = refl

pub front_quoted_pairs : line_front (codes "{\"t\":3,\"d\":\"A1 13 14 0C 40 FF C1 40 22 A1\"}") ≡ codes "{\"t\":3,\"d\":\""
front_quoted_pairs = refl

pub front_long_comment : line_front (codes "12:00:03 A113140C40FFC14022A1 # seen by 0123456789abcdef0123") ≡ codes "12:00:03"
front_long_comment = refl

-- ---- The runs of a line, and what is before the last bytes of one.

abbrev pub runs : List ℕ → List (List ℕ)
runs line = map text_digits (line_runs line)

pub an_id_before : runs (codes "id 0123456789abcdef0123, A113140C40FFC14022A1") ≡ codes "A113140C40FFC14022A1" ∷ codes "0123456789abcdef0123" ∷ []
an_id_before = refl

pub one_run : runs (codes "12:00:03 A113140C40FFC14022A1") ≡ codes "A113140C40FFC14022A1" ∷ []
one_run = refl

pub two_in_a_word : runs (codes "A113140C40FFC14022A1:x:A113140C40FFC14022A2") ≡ codes "A113140C40FFC14022A2" ∷ codes "A113140C40FFC14022A1" ∷ []
two_in_a_word = refl

pub few_digits_have_none_before : runs (codes "retry 17") ≡ codes "17" ∷ []
few_digits_have_none_before = refl

pub no_run : runs (codes "state machine: idle") ≡ [] ∷ []
no_run = refl

pub front_of_the_last_pairs : front_of 10 (codes "len=27 A1 13 14 0C 40 FF C1 40 22 A1") ≡ codes "len=27"
front_of_the_last_pairs = refl

pub front_of_all_pairs : front_of 11 (codes "len=27 A1 13 14 0C 40 FF C1 40 22 A1") ≡ codes "len="
front_of_all_pairs = refl

pub front_inside_of_a_word : front_of 10 (codes "x 27A113140C40FFC14022A1") ≡ codes "x 27"
front_inside_of_a_word = refl

pub front_between_dots : front_of 10 (codes "27.A1.13.14.0C.40.FF.C1.40.22.A1") ≡ codes "27."
front_between_dots = refl
