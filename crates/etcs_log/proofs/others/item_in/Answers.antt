use Rattle.std.proofs.Common.{false, subst}
use Rattle.etcs_log.specs.Candidates.{last_candidate, message_candidate, whole_candidate}
use Rattle.etcs_text.specs.declared.entry.Kind.TheVariants.{Long, Short}
use Rattle.etcs_log.specs.Reports.{IsCountOf}
use Rattle.etcs_log.proofs.Another.{as_message, count_not, in_five, in_four, in_one, in_three, in_two}
use Rattle.etcs_log.proofs.others.item_in.Goals as goal

pub returns-in-Some : goal.returns-in-Some
returns-in-Some c text =
    let kinds = c.args.kinds in
    let bytes = c.args.bytes.now in
    in_one kinds text bytes c.in-Some.count (subst (IsCountOf (whole_candidate kinds Long text bytes)) c.in-Some.is (c.in_ok-count.ensures text))

pub returns-in-Some-2 : goal.returns-in-Some-2
returns-in-Some-2 c text =
    let kinds = c.args.kinds in
    let bytes = c.args.bytes.now in
    in_two kinds text bytes c.in-Some-2.count (count_not (whole_candidate kinds Long text bytes) _ c.in_default.not-Some (c.in_ok-count.ensures text)) (subst (IsCountOf (whole_candidate kinds Short text bytes)) c.in-Some-2.is (c.in_ok-count-2.ensures text))

pub returns-in-Some-3 : goal.returns-in-Some-3
returns-in-Some-3 c text =
    let kinds = c.args.kinds in
    let bytes = c.args.bytes.now in
    let long = count_not (whole_candidate kinds Long text bytes) _ c.in_default.not-Some (c.in_ok-count.ensures text) in
    let short = count_not (whole_candidate kinds Short text bytes) _ c.in_default-2.not-Some (c.in_ok-count-2.ensures text) in
    let message = as_message kinds text bytes c.asks_message-asked.result c.message_way.result _ c.asks_message-asked.ensures c.message_way.ensures (c.in_ok-count-3.ensures false text) in
    in_three kinds text bytes c.in-Some-3.count long short (subst (IsCountOf (message_candidate kinds text bytes)) c.in-Some-3.is message)

pub returns-in-Some-4 : goal.returns-in-Some-4
returns-in-Some-4 c text =
    let kinds = c.args.kinds in
    let bytes = c.args.bytes.now in
    let long = count_not (whole_candidate kinds Long text bytes) _ c.in_default.not-Some (c.in_ok-count.ensures text) in
    let short = count_not (whole_candidate kinds Short text bytes) _ c.in_default-2.not-Some (c.in_ok-count-2.ensures text) in
    let message = count_not (message_candidate kinds text bytes) _ c.in_default-3.not-Some (as_message kinds text bytes c.asks_message-asked.result c.message_way.result _ c.asks_message-asked.ensures c.message_way.ensures (c.in_ok-count-3.ensures false text)) in
    in_four kinds text bytes c.in-Some-4.count long short message (subst (IsCountOf (last_candidate kinds Long text bytes)) c.in-Some-4.is (c.in_ok-count-4.ensures text))

pub returns : goal.returns
returns c text =
    let kinds = c.args.kinds in
    let bytes = c.args.bytes.now in
    let long = count_not (whole_candidate kinds Long text bytes) _ c.in_default.not-Some (c.in_ok-count.ensures text) in
    let short = count_not (whole_candidate kinds Short text bytes) _ c.in_default-2.not-Some (c.in_ok-count-2.ensures text) in
    let message = count_not (message_candidate kinds text bytes) _ c.in_default-3.not-Some (as_message kinds text bytes c.asks_message-asked.result c.message_way.result _ c.asks_message-asked.ensures c.message_way.ensures (c.in_ok-count-3.ensures false text)) in
    let last = count_not (last_candidate kinds Long text bytes) _ c.in_default-4.not-Some (c.in_ok-count-4.ensures text) in
    in_five kinds text bytes c.find_last-2.result long short message last (c.find_last-2.ensures text)
