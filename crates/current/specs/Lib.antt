pub mod Current
