-- The options of each command are simple ones, whatever makes them.
use Rattle.std.proofs.Common.{◌≡◌, true, ap, ◌∷◌, [], ℕ, List}
use Rattle.clap.specs.Faults.{is_simple_and_free}
use Rattle.clap.specs.Simple.{App}
use Rattle.uf_words.specs.Commands.{add_options, check_options, init_options, ls_options, prove_options}
use Rattle.uf_words.specs.Commands.{read_options, touch_options, write_options}
use Rattle.uf_words.specs.Options.{argument, flag, simple_command}

pub init_simple : (app : App) → app ≡ init_options → is_simple_and_free app ≡ true
unfolding init_options
init_simple app is = ap is_simple_and_free is

pub add_simple : (app : App) → app ≡ add_options → is_simple_and_free app ≡ true
unfolding add_options
add_simple app is = ap is_simple_and_free is

pub ls_simple : (app : App) → app ≡ ls_options → is_simple_and_free app ≡ true
unfolding ls_options
ls_simple app is = ap is_simple_and_free is

pub read_simple : (app : App) → app ≡ read_options → is_simple_and_free app ≡ true
unfolding read_options
read_simple app is = ap is_simple_and_free is

pub write_simple : (app : App) → app ≡ write_options → is_simple_and_free app ≡ true
unfolding write_options
write_simple app is = ap is_simple_and_free is

pub touch_simple : (app : App) → app ≡ touch_options → is_simple_and_free app ≡ true
unfolding touch_options
touch_simple app is = ap is_simple_and_free is

pub prove_simple : (app : App) → app ≡ prove_options → is_simple_and_free app ≡ true
unfolding prove_options
prove_simple app is = ap is_simple_and_free is

pub check_simple : (app : App) → app ≡ check_options → is_simple_and_free app ≡ true
unfolding check_options
check_simple app is = ap is_simple_and_free is

pub argument_simple : (app : App) (name : List ℕ) → app ≡ simple_command (argument name ∷ [])
    → is_simple_and_free app ≡ true
argument_simple app name is = ap is_simple_and_free is

pub arguments_simple : (app : App) (first second : List ℕ)
    → app ≡ simple_command (argument first ∷ argument second ∷ []) → is_simple_and_free app ≡ true
arguments_simple app first second is = ap is_simple_and_free is

pub flagged_simple : (app : App) (name : List ℕ) (letter : ℕ) (value : List ℕ)
    → app ≡ simple_command (flag name letter ∷ argument value ∷ []) → is_simple_and_free app ≡ true
flagged_simple app name letter value is = ap is_simple_and_free is
