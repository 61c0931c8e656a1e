-- A builder from within.
use Rattle.std.specs.Prelude.{◌≡◌, false, IsTrue}
use Rattle.uf_tree.specs.Profiles.{is_profile}
use Rattle.uf_build.specs.declared.builder.Builder.TheInside.{Inside}
use Rattle.uf_build.specs.Building.{Building, IsReady}
use Rattle.uf_build.specs.Rows.{groups_in}

-- what contracts see of it
abbrev pub building_of : Inside → Building
building_of b = record {
  profile = b.layout.profile;
  fed = b.fed;
  is_spent = b.is_spent;
  begun = b.layout.begun.items;
  rows = groups_in b.layout.opened;
}

-- it has an accepted profile, and where it didn't give up, room for what comes
pub record IsSound (b : Inside) : Type 0 where
  pub profile : IsTrue (is_profile b.layout.profile)
  pub ready : b.is_spent ≡ false → IsReady b.layout.profile b.fed b.layout.begun.items (groups_in b.layout.opened)
