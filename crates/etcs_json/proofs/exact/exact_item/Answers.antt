use Rattle.std.proofs.Common.{◌≡◌, ◌++◌, List, ℕ, take, length, sym, ap, subst, ◌∙◌}
use Rattle.std.proofs.lemmas.List.{take_at}
use Rattle.serde_json.specs.Written.{compact_text}
use Rattle.etcs_vars.specs.Reading.{Reading}
use Rattle.etcs_text.specs.declared.entry.Kind.{Kind}
use Rattle.etcs_text.specs.Entries.{EntryReads, EntryValue, entry_value}
use Rattle.etcs_text.specs.Trees.{json_tree}
use Rattle.etcs_json.specs.JsonLines.{SaysItem}
use Rattle.etcs_json.proofs.ItemLengths.{item_whole, item_long_at}
use Rattle.etcs_json.proofs.OneStored.{one_entry}
use Rattle.etcs_json.proofs.OwnStored.{says_itself}
use Rattle.etcs_json.proofs.PlainTrees.{read_tree, utf8_tree}
use Rattle.etcs_json.proofs.exact.exact_item.Goals as goal

-- a line that is the text of an item's tree says this item
says_written : (kind : Kind) (line : List ℕ) (e : EntryValue) (r : Reading) → EntryReads kind e r → line ≡ compact_text (json_tree e) → SaysItem kind line e
says_written kind line e r reads is =
    subst (λ (t : List ℕ). SaysItem kind t e) (sym is)
    (json_tree e, utf8_tree e r reads.1, read_tree e r reads.1, says_itself kind e r reads)

-- the line with more after it begins with that text, which is as long as the line
all_taken : (line text rest front : List ℕ) (n : ℕ) → text ≡ line ++ rest → n ≡ length line → take n text ≡ front → line ≡ front
all_taken line text rest front n is long taken = sym (ap (take n) is ∙ take_at line rest n (sym long)) ∙ taken

pub item_on-requires-clause-whole : goal.item_on-requires-clause-whole
item_on-requires-clause-whole c = let (e, r, reads, within, text, bits) = c.in-Some.ensures in item_whole c.args.kind e r c.line_item.new.page reads bits

pub item_on-requires-clause-long : goal.item_on-requires-clause-long
item_on-requires-clause-long c = let (e, r, reads, within, text, bits) = c.in-Some.ensures in item_long_at c.args.kind e r c.line_item.new.page reads bits

pub returns-in-Ok : goal.returns-in-Ok
returns-in-Ok c =
    let (e, r, reads, within, text, bits) = c.in-Some.ensures in
    let (q, own, same) = c.in-Ok.ensures.ok in
    let (rest, is) = c.in_ok-text.ensures in
    let one = one_entry c.args.kind e (entry_value c.in-Ok.entry) r q reads own (sym bits ∙ same) in
    let all = all_taken c.args.line.now c.as_slice.result.now rest (compact_text (json_tree e)) c.in-Some.used (c.as_slice.ensures.value ∙ is) c.if-used-line.false text in
    says_written c.args.kind c.args.line.now (entry_value c.in-Ok.entry) q own (all ∙ ap (λ (z : EntryValue). compact_text (json_tree z)) one)
