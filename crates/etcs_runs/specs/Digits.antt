-- The digits of a line of a log or a dump: how they are found, and what is before them.
use Rattle.std.specs.Prelude.{ℕ, zero, suc, ◌%◌, Bool, true, false, not, ◌&&◌, ◌||◌, ◌==◌, nat_le, nat_lt, if◌then◌else◌, List, [], ◌∷◌, ◌++◌, length, drop, map, reverse, filter, slice_index}
use Rattle.std.specs.Char.{is_ascii_alphanumeric}
use Rattle.std.specs.List.{list_all}
use Rattle.hex.specs.Hex.{is_hex_digit}

-- ---- Words.

-- a blank, a tab or a CR
abbrev pub is_blank : ℕ → Bool
is_blank c = (c == 32) || (c == 9) || (c == 13)

-- a comma, a semicolon, an equals sign, a quote or a bracket: , ; = " ' ( ) [ ] { } < >
abbrev pub is_mark : ℕ → Bool
is_mark c = (c == 44) || (c == 59) || (c == 61) || (c == 34) || (c == 39) || (c == 40) || (c == 41) || (c == 91) || (c == 93) || (c == 123) || (c == 125) || (c == 60) || (c == 62)

-- a blank or such a mark
abbrev pub is_gap : ℕ → Bool
is_gap c = is_blank c || is_mark c

-- any character but a digit or a letter of ASCII
abbrev pub is_joint : ℕ → Bool
is_joint c = not (is_ascii_alphanumeric c)

-- the pieces with this character before the first of them
abbrev pub grown : ℕ → List (List ℕ) → List (List ℕ)
grown c [] = (c ∷ []) ∷ []
grown c (p ∷ ps) = (c ∷ p) ∷ ps

-- a text cut at such characters: what is before, between and after them
abbrev pub cut : (ℕ → Bool) → List ℕ → List (List ℕ)
cut at [] = [] ∷ []
cut at (c ∷ cs) = if at c then [] ∷ cut at cs else grown c (cut at cs)

-- there is a character
abbrev pub has_some : List ℕ → Bool
has_some [] = false
has_some (c ∷ cs) = true

-- the words of a text that is cut at such characters
abbrev pub words : (ℕ → Bool) → List ℕ → List (List ℕ)
words at text = filter has_some (cut at text)

-- an x of either case
abbrev pub is_x : ℕ → Bool
is_x c = (c == 120) || (c == 88)

-- the word begins with `0x`
abbrev pub has_0x : List ℕ → Bool
has_0x word = (slice_index word 0 == 48) && is_x (slice_index word 1)

-- a word without `0x` in front
abbrev pub bare : List ℕ → List ℕ
bare word = if has_0x word then drop 2 word else word

-- the line begins with a byte order mark
abbrev pub has_mark : List ℕ → Bool
has_mark line = (slice_index line 0 == 239) && (slice_index line 1 == 187) && (slice_index line 2 == 191)

-- a line without its byte order mark
abbrev pub without_mark : List ℕ → List ℕ
without_mark line = if has_mark line then drop 3 line else line

-- ---- Digits.

-- the word is n digits
abbrev pub are_digits : ℕ → List ℕ → Bool
are_digits n word = (length word == n) && list_all is_hex_digit word

-- a number of digits that a group may have: 2, 4, .. or 16
abbrev pub is_size : ℕ → Bool
is_size n = nat_lt 0 n && nat_le n 16 && (n % 2 == 0)

-- the word is a group: of digits, as many as a group may have
abbrev pub is_group : List ℕ → Bool
is_group word = is_size (length word) && list_all is_hex_digit word

-- of words, the last first: the digits of those that have n each, up to one that doesn't, in the order of the line
abbrev pub run : ℕ → List (List ℕ) → List ℕ
run n [] = []
run n (w ∷ ws) = if are_digits n w then run n ws ++ w else []

-- how many digits the groups have before one of n: as many as the last of them, unless that has fewer than n
abbrev pub group_size : ℕ → List (List ℕ) → ℕ
group_size n [] = n
group_size n (w ∷ ws) = if nat_le n (length w) && is_size (length w) then length w else n

-- the words of a text that is cut at such characters, without `0x` in front, the last first
abbrev pub last_first : (ℕ → Bool) → List ℕ → List (List ℕ)
last_first at text = reverse (map bare (words at text))

-- of words, the last first, the digits at the end: those of the last groups, which have 2, 4, .. or 16 digits each, all the
-- same size except that the last one may be smaller; or else those of the last word alone
abbrev pub groups : List (List ℕ) → List ℕ
groups [] = []
groups (w ∷ ws) = if is_group w then run (group_size (length w) ws) ws ++ w else if list_all is_hex_digit w then w else []

-- they are enough for an item: the shortest messages have ten bytes
abbrev pub are_enough : List ℕ → Bool
are_enough digits = nat_le 20 (length digits)

-- of words, the last first, the digits at the end without the last words, as few of these as possible so that the
-- digits are enough; none if they never are
abbrev pub searched : (List (List ℕ) → List ℕ) → List (List ℕ) → List ℕ
searched digits_of [] = []
searched digits_of (w ∷ ws) = if are_enough (digits_of (w ∷ ws)) then digits_of (w ∷ ws) else searched digits_of ws

-- these digits; if they are never enough, those at the end
abbrev pub found : (List (List ℕ) → List ℕ) → List (List ℕ) → List ℕ
found digits_of ws = if are_enough (searched digits_of ws) then searched digits_of ws else digits_of ws

-- the digits of one word: those of its parts, cut at characters that are neither digits nor letters
abbrev pub word_digits : List ℕ → List ℕ
word_digits word = found groups (last_first is_joint word)

-- of words, the last first, the digits at the end: those of groups, or else those of the last word's parts
abbrev pub end_digits : List (List ℕ) → List ℕ
end_digits [] = []
end_digits (w ∷ ws) = if is_group w then groups (w ∷ ws) else word_digits w

-- The digits of a text. It is cut into words at blanks, commas, semicolons, equals signs, quotes and brackets; each may
-- have `0x` in front. The last words are the digits if they are groups: of one even size of at most 16, but for the
-- last of them, which may be smaller. Else the last word is cut into parts at each character that is neither a digit
-- nor a letter, and its last parts are the digits, if they are groups, or its last part. If these are fewer than 20
-- digits, the part at the end is skipped, and then the next one, and so on, and after the parts of a word the word; if
-- there are never 20, the digits are those at the end. What is in front of them is skipped
abbrev pub text_digits : List ℕ → List ℕ
text_digits text = found end_digits (last_first is_gap text)

-- a comment begins: with a blank, and `#`, `;` or `//` after it
abbrev pub begins_comment : List ℕ → Bool
begins_comment text = is_blank (slice_index text 0) && ((slice_index text 1 == 35) || (slice_index text 1 == 59) || ((slice_index text 1 == 47) && (slice_index text 2 == 47)))

-- a line before a comment
abbrev pub without_comment : List ℕ → List ℕ
without_comment [] = []
without_comment (c ∷ cs) = if begins_comment (c ∷ cs) then [] else c ∷ without_comment cs

-- what is read of a line: what is before a comment, if that has 20 digits, else all of it
abbrev pub read_text : List ℕ → List ℕ
read_text line = if are_enough (text_digits (without_comment line)) then without_comment line else line

-- the digits of a line without its byte order mark: those of what is read of it
abbrev pub line_digits : List ℕ → List ℕ
line_digits line = text_digits (read_text (without_mark line))

-- there is no word, or the first begins with `#`
abbrev pub says_nothing : List (List ℕ) → Bool
says_nothing [] = true
says_nothing (w ∷ ws) = slice_index w 0 == 35

-- the line is blank or a comment: it has no word between blanks, tabs and CRs, or its first one begins with `#`
abbrev pub is_passed_over : List ℕ → Bool
is_passed_over line = says_nothing (words is_blank (without_mark line))

-- ---- What is before them.

-- a character before the rest of a text; or nothing, if it may go and there is no rest
abbrev pub kept : Bool → ℕ → List ℕ → List ℕ
kept true c [] = []
kept true c (x ∷ xs) = c ∷ x ∷ xs
kept false c xs = c ∷ xs

-- a text without such characters at its end
abbrev pub without_end : (ℕ → Bool) → List ℕ → List ℕ
without_end at [] = []
without_end at (c ∷ cs) = kept (at c) c (without_end at cs)

-- a text before its last word
abbrev pub before_last : (ℕ → Bool) → List ℕ → List ℕ
before_last at text = without_end (λ c. not (at c)) (without_end at text)

-- a text before its last n words
abbrev pub before_words : (ℕ → Bool) → ℕ → List ℕ → List ℕ
before_words at zero text = text
before_words at (suc n) text = before_words at n (before_last at text)

-- of words, the last first: how many of n digits each there are, up to one that isn't
abbrev pub run_words : ℕ → List (List ℕ) → ℕ
run_words n [] = 0
run_words n (w ∷ ws) = if are_digits n w then suc (run_words n ws) else 0

-- how many words the digits at the end of words are: the groups, or the last word alone
abbrev pub group_words : List (List ℕ) → ℕ
group_words [] = 0
group_words (w ∷ ws) = if is_group w then suc (run_words (group_size (length w) ws) ws) else if list_all is_hex_digit w then 1 else 0

-- of words, the last first: the last ones, as few as may be, without which the digits at the end are enough, and those that
-- have these digits
abbrev pub searched_words : (List (List ℕ) → List ℕ) → (List (List ℕ) → ℕ) → List (List ℕ) → ℕ
searched_words digits_of words_of [] = 0
searched_words digits_of words_of (w ∷ ws) = if are_enough (digits_of (w ∷ ws)) then words_of (w ∷ ws) else suc (searched_words digits_of words_of ws)

-- these words; if the digits are never enough, those that have the digits at the end
abbrev pub found_words : (List (List ℕ) → List ℕ) → (List (List ℕ) → ℕ) → List (List ℕ) → ℕ
found_words digits_of words_of ws = if are_enough (searched digits_of ws) then searched_words digits_of words_of ws else words_of ws

-- how many parts of a word its digits and what is after them have
abbrev pub word_parts : List ℕ → ℕ
word_parts word = found_words groups group_words (last_first is_joint word)

-- how many of them are after its digits
abbrev pub passed_parts : List ℕ → ℕ
passed_parts word = found_words groups (λ ws. 0) (last_first is_joint word)

-- how many words of a text are after its digits
abbrev pub passed_words : List ℕ → ℕ
passed_words text = found_words end_digits (λ ws. 0) (last_first is_gap text)

-- a text of these words, the last first, before the digits at its end
abbrev pub end_front : List (List ℕ) → List ℕ → List ℕ
end_front [] text = text
end_front (w ∷ ws) text = if is_group w then before_words is_gap (group_words (w ∷ ws)) text else before_words is_joint (word_parts w) text

-- the text before the digits at its end
abbrev pub before_end : List ℕ → List ℕ
before_end text = end_front (last_first is_gap text) text

-- a text before its digits
abbrev pub before_digits : List ℕ → List ℕ
before_digits text = before_end (before_words is_gap (passed_words text) text)

-- what is before the digits of a text, without blanks, tabs and CRs at the end
abbrev pub text_front : List ℕ → List ℕ
text_front text = without_end is_blank (before_digits text)

-- What is before the digits of a line: before the first of the words or parts that have them, without a byte order mark in
-- front and blanks, tabs and CRs at the end. A `0x` in front of the digits belongs to them; no other character that touches
-- them does. If there are no digits, all of the line but the mark and these blanks
abbrev pub line_front : List ℕ → List ℕ
line_front line = text_front (read_text (without_mark line))
