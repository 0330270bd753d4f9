use Rattle.std.proofs.Common.{rules, ◌≡◌, Some, string_bytes}
use Rattle.kp_io.specs.Outside.{Stores}
use Rattle.kp_io.specs.Files.{map_names}
use Rattle.kp_io.proofs.Names.{stores_updated, others_updated}
use Rattle.kp_io.proofs.files.FilesShelf.store.Goals as goal

pub returns-in-Ok-clause-stored : goal.returns-in-Ok-clause-stored
returns-in-Ok-clause-stored c =
    let named : string_bytes c.in_ok-name.name ≡ c.args.name.now = search rules in
    let held : c.in_ok-bytes.bytes.items ≡ c.args.bytes.now = search rules in
    stores_updated c.args.self.now.files c.insert.new.self c.in_ok-name.name c.args.name.now c.args.bytes.now c.in_ok-bytes.bytes
    c.in-Ok.ensures.updates named held

pub returns-in-Ok-clause-others : goal.returns-in-Ok-clause-others
returns-in-Ok-clause-others c =
    let stored : Stores (Some (map_names c.args.self.now.files)) (Some (map_names c.insert.new.self)) c.args.name.now c.args.bytes.now =
    returns-in-Ok-clause-stored c in
    others_updated c.args.self.now.files c.insert.new.self c.args.name.now c.args.bytes.now stored
