mod Lines
mod Printed
