-- What stays for a whole run, as commands have it, and the setting that it is with the blocks.
use Rattle.std.specs.Prelude.{List}
use Rattle.spqr_session.specs.Setting.{Setting}
use Rattle.spqr_session.specs.Embedded.{BlockView, setting_of}
use Rattle.spqr_session.specs.declared.scene.Scene.{Scene}

-- the setting that a scene is with these blocks
abbrev pub setting_on : Scene → List BlockView → Setting
setting_on scene views = setting_of scene.doc scene.named scene.blocks views
