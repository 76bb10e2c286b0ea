-- Telegrams of a group in any order (SUBSET-026, 3.16.2.4).
use Rattle.std.specs.Prelude.{◌↔◌, List, [], ◌∷◌, IsPermutation}
use Rattle.etcs_telegram.specs.Telegrams.{TelegramContent}
use Rattle.etcs_group.specs.Groups.{JoinsSet, HeldOf}

-- each of these adds, the last of them first, finds a set that it joins
abbrev pub NoneRefused : List TelegramContent → Type 0
NoneRefused [] = Unit {0}
NoneRefused (t ∷ earlier) = JoinsSet (HeldOf earlier) t × NoneRefused earlier

-- if none of a list is refused, none is in any other order of it, and what is held is the same
abbrev pub AnyOrder : Type 0
AnyOrder = (ts us : List TelegramContent) → IsPermutation ts us → NoneRefused ts → NoneRefused us × ((t : TelegramContent) → HeldOf us t ↔ HeldOf ts t)
