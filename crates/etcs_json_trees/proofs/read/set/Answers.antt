use Rattle.std.proofs.Common.{◌≡◌, string_bytes, ap, ◌∙◌, rules}
use Rattle.serde_json.specs.Data.{put}
use Rattle.serde_json.specs.View.{view, members_view}
use Rattle.serde_json.proofs.Views.{members_view-insert_entry}
use Rattle.etcs_json_trees.proofs.read.set.Goals as goal

pub returns : goal.returns
returns c =
    let old = members_view c.args.found.now.entries in
    let copied : string_bytes c.in_ok-key.key ≡ c.args.name.now = search rules in
    ap members_view c.in_ok-insert.ensures.entries ∙ members_view-insert_entry c.args.found.now.entries c.in_ok-key.key c.args.value ∙ ap (λ name. put name (view c.args.value) old) copied
